-- Corners of document 01, computed: each falls if a definition departs from it, whatever the code does.
use mathlib.Core.Path.{◌≡◌, refl}
use mathlib.Core.Bool.{Bool, true, false}
use mathlib.Core.List.{List, [], ◌∷◌, map}
use Prim.Native.Nat.{ℕ}
use lib.ListN.{replicate}
use Rattle.pauli.specs.Letters.{power}
use Rattle.arena.specs.Limits.{cap_of}
use Rattle.arena.specs.Errors.{TooManyQubits, BadStore, ForeignPauli, ClassicalBitOutOfRange, UnknownMeasurement, NoFrame, NoNodes, NoScratch, ExpansionLimit, NoPool, Checked, Fine, Wrong, ◌⟫◌⇒◌}
use Rattle.arena.specs.References.{PauliRef, axis_of}
use Rattle.arena.specs.Nodes.{decode, node_at, values, image, factors_commute}
use Rattle.arena.specs.Operations.{decode_op, Measure, ConditionalRotate, Malformed, OfGate, ByHand, NoSource, source_of, Bit, meas_id, angle_kind, axis_kind, NoKind, Pi8, Clifford}
use Rattle.arena.specs.Store.{Header, breaks_limit, exceeds_nodes, exceeds_operations, foreign, unknown, no_node_room, no_operation_room}
use Rattle.arena.specs.Builder.{Step, NodesAndFrame, Created, CreatedMade, CreatedRefused, step_of, new_check, new_step, product_check, measure_check, measure_step, conditional_check, conditional_step}
use Rattle.arena.specs.Sparse.{dense}
use Rattle.arena.specs.Walk.{Out, fine, refused, bind, walk}
use Rattle.arena.specs.Charges.{visits, charges, weight_at, work_of}
use Rattle.arena.specs.Readers.{expand_walk, report_walk}
use Rattle.arena.specs.Expansion.{op_at, expand_check, report_check, report_step, kind_report_step}

-- ---- a new circuit: 1, 13, 14, and what is written

-- 2 qubits need 4 frame words and 5 nodes
lent : ℕ → ℕ → NodesAndFrame
lent nodes frame = record { nodes = replicate nodes 9; frame = replicate frame 9 }

created : (qubits cbits nodes frame : ℕ) → Step Created NodesAndFrame
unfolding new_step new_check ◌⟫◌⇒◌ lent
created qubits cbits nodes frame = new_step qubits cbits 5 (replicate nodes 9) (replicate frame 9)

new_short_frame : created 2 0 10 3 ≡ step_of (CreatedRefused NoFrame) (lent 10 3)
unfolding created
new_short_frame = refl

new_frame_before_nodes : created 2 0 9 3 ≡ step_of (CreatedRefused NoFrame) (lent 9 3)
unfolding created
new_frame_before_nodes = refl

new_short_nodes : created 2 0 9 4 ≡ step_of (CreatedRefused NoNodes) (lent 9 4)
unfolding created
new_short_nodes = refl

new_just_fits : created 2 0 10 4
    ≡ step_of (CreatedMade (record { qubits = 2; cbits = 0; owner = 5; nodes = 5; operations = 0; measurements = 0 }))
    (record { nodes = 0 ∷ 0 ∷ 5 ∷ 0 ∷ 13 ∷ 0 ∷ 5 ∷ 1 ∷ 13 ∷ 1 ∷ []; frame = 4 ∷ 12 ∷ 8 ∷ 16 ∷ [] })
unfolding created
new_just_fits = refl

new_most_bits : created 0 65536 2 0
    ≡ step_of (CreatedMade (record { qubits = 0; cbits = 65536; owner = 5; nodes = 1; operations = 0; measurements = 0 }))
    (record { nodes = 0 ∷ 0 ∷ []; frame = [] })
unfolding created
new_most_bits = refl

new_too_many_bits : created 0 65537 2 0 ≡ step_of (CreatedRefused TooManyQubits) (lent 2 0)
unfolding created
new_too_many_bits = refl

new_too_many_qubits : created 257 0 2 0 ≡ step_of (CreatedRefused TooManyQubits) (lent 2 0)
unfolding created
new_too_many_qubits = refl

-- ---- 17 first within a step; left before right; both children before either is taken

-- X X: a copy that neither the limit nor the room allows
square_words : List ℕ
square_words = 0 ∷ 0 ∷ 5 ∷ 0 ∷ 13 ∷ 0 ∷ 18 ∷ 4 ∷ []

limit_before_room : walk 3 1 1 4 square_words (12 ∷ []) ≡ refused ExpansionLimit
unfolding walk node_at decode power square_words
limit_before_room = refl

-- (X₀ X₀) Z₁: two records, if the left child comes first
left_words : List ℕ
left_words = 0 ∷ 0 ∷ 5 ∷ 0 ∷ 13 ∷ 0 ∷ 5 ∷ 1 ∷ 13 ∷ 1 ∷ 18 ∷ 4 ∷ 82 ∷ 16 ∷ []

left_first : bind (walk 8 2 2 7 left_words (24 ∷ [])) (λ a. fine a.work) ≡ fine 8
unfolding walk node_at decode power left_words
left_first = refl

-- X₀ (X₀ Z₁): no copy of X₀ before X₀ Z₁ is there
both_words : List ℕ
both_words = 0 ∷ 0 ∷ 5 ∷ 0 ∷ 13 ∷ 0 ∷ 5 ∷ 1 ∷ 13 ∷ 1 ∷ 18 ∷ 16 ∷ 18 ∷ 20 ∷ []

both_before : walk 5 1 2 7 both_words (24 ∷ []) ≡ refused NoPool
unfolding walk node_at decode power both_words
both_before = refl

-- ---- what is charged, by the list of charges

square_work : work_of 1 4 square_words (12 ∷ []) ≡ 5
unfolding work_of image values node_at decode power square_words
square_work = refl

-- the latest first: the root and its factor; node 6, two moves, a product with no factor; node 4; node 5, a copy of X₀, its move, their product; node 1
left-charges : charges (node_at 2 left_words) (weight_at 2 7 left_words) [] (visits (node_at 2 left_words) 7 (24 ∷ []) [])
    ≡ 1 ∷ 1 ∷ 1 ∷ 0 ∷ 0 ∷ 0 ∷ 1 ∷ 1 ∷ 1 ∷ 0 ∷ 1 ∷ 1 ∷ []
unfolding image values node_at decode power left_words
left-charges = refl

-- Z₁ Z₁ and then Z₁: a root is the last use of Z₁, so both children are copied
root_words : List ℕ
root_words = 0 ∷ 0 ∷ 5 ∷ 0 ∷ 13 ∷ 0 ∷ 5 ∷ 1 ∷ 13 ∷ 1 ∷ 66 ∷ 16 ∷ []

root_last : charges (node_at 2 root_words) (weight_at 2 6 root_words) [] (visits (node_at 2 root_words) 6 (20 ∷ 16 ∷ []) [])
    ≡ 1 ∷ 1 ∷ 1 ∷ 0 ∷ 1 ∷ 1 ∷ 1 ∷ 1 ∷ 1 ∷ []
unfolding image values node_at decode power root_words
root_last = refl

-- ---- 65,536 records count

cap_most : cap_of 196611 ≡ 65536
cap_most = refl

cap_below : cap_of 196607 ≡ 65535
cap_below = refl

-- ---- operations

on : ℕ → PauliRef
on w = record { owner = 5; word = w }

measure_angle : decode_op 5 2 5 8 0 0 ≡ Malformed
unfolding decode_op
measure_angle = refl

measure_last_bit : decode_op 5 2 1 8 0 2 ≡ Measure (axis_of (on 8)) (meas_id 5 0) (Bit 1)
unfolding decode_op on
measure_last_bit = refl

measure_past_bits : decode_op 5 2 1 8 0 3 ≡ Malformed
unfolding decode_op
measure_past_bits = refl

angle_eight : decode_op 5 2 32 8 0 0 ≡ Malformed
unfolding decode_op
angle_eight = refl

rotate_unused : decode_op 5 2 4 8 1 0 ≡ Malformed
unfolding decode_op
rotate_unused = refl

conditional_unused : decode_op 5 2 6 8 0 1 ≡ Malformed
unfolding decode_op
conditional_unused = refl

kind_three : decode_op 5 2 3 8 0 0 ≡ Malformed
unfolding decode_op
kind_three = refl

axis_kinds : map angle_kind (0 ∷ 1 ∷ 2 ∷ 3 ∷ 4 ∷ 5 ∷ 6 ∷ 7 ∷ []) ≡ NoKind ∷ Pi8 ∷ Clifford ∷ Pi8 ∷ Clifford ∷ Pi8 ∷ Clifford ∷ Pi8 ∷ []
axis_kinds = refl

-- ---- what is written is what is read

header : Header
header = record { qubits = 1; cbits = 2; owner = 5; nodes = 3; operations = 1; measurements = 1 }

header' : Header
header' = record { qubits = 1; cbits = 2; owner = 5; nodes = 3; operations = 2; measurements = 2 }

operations : List ℕ
operations = 1 ∷ 8 ∷ 0 ∷ 0 ∷ 0 ∷ 7 ∷ 7 ∷ 7 ∷ 7 ∷ 7 ∷ []

conditional_read : op_at header' (conditional_step header operations (axis_of (on 8)) (record { 0 = 3 }) (meas_id 5 0)).words 1
    ≡ ConditionalRotate (axis_of (on 8)) (record { 0 = 3 }) (meas_id 5 0)
unfolding op_at decode_op conditional_step conditional_check breaks_limit exceeds_operations foreign unknown no_operation_room ◌⟫◌⇒◌ header header' operations on
conditional_read = refl

measure_read : op_at header' (measure_step header operations (axis_of (on 8)) (Bit 1)).words 1 ≡ Measure (axis_of (on 8)) (meas_id 5 1) (Bit 1)
unfolding op_at decode_op measure_step measure_check breaks_limit exceeds_operations foreign unknown no_operation_room ◌⟫◌⇒◌ header header' operations on
measure_read = refl

-- ---- the report: a measurement is no Clifford, and a measurement not given is 3

nodes : List ℕ
nodes = 0 ∷ 0 ∷ 5 ∷ 0 ∷ 13 ∷ 0 ∷ []

unknown-measurement : report_check header nodes (1 ∷ 8 ∷ 1 ∷ 0 ∷ 0 ∷ []) 12 ≡ Wrong BadStore
unfolding report_check breaks_limit exceeds_nodes exceeds_operations foreign unknown op_at decode_op source_of node_at decode ◌⟫◌⇒◌ header nodes
unknown-measurement = refl

known_measurement : report_check header nodes (1 ∷ 8 ∷ 0 ∷ 0 ∷ 0 ∷ []) 12 ≡ Fine
unfolding report_check breaks_limit exceeds_nodes exceeds_operations foreign unknown op_at decode_op source_of node_at decode ◌⟫◌⇒◌ header nodes
known_measurement = refl

measured_report : (report_step header nodes (1 ∷ 8 ∷ 0 ∷ 0 ∷ 0 ∷ []) (replicate 12 7) (replicate 6 7) 3).answer
    ≡ fine (record { weights = record { non_clifford = 1; clifford = 0 }; work = 3 })
unfolding report_step report_check breaks_limit exceeds_nodes exceeds_operations foreign unknown op_at decode_op source_of axis_kind report_walk walk node_at decode power ◌⟫◌⇒◌ header nodes
measured_report = refl

-- turns by 0, by 2, by 0 on a condition, by 1: those by 0 are Clifford in the first report, and in neither maximum of the second; the work is the same
turned : List ℕ
turned = 0 ∷ 8 ∷ 0 ∷ 0 ∷ 0 ∷ 2 ∷ 4 ∷ 0 ∷ 0 ∷ 0 ∷ 4 ∷ 0 ∷ 0 ∷ 0 ∷ 0 ∷ []

turned_header : Header
turned_header = record { qubits = 1; cbits = 0; owner = 5; nodes = 3; operations = 3; measurements = 1 }

first_report : (report_step turned_header nodes turned (replicate 12 7) (replicate 9 7) 9).answer
    ≡ fine (record { weights = record { non_clifford = 0; clifford = 1 }; work = 8 })
unfolding report_step report_check breaks_limit exceeds_nodes exceeds_operations foreign unknown op_at decode_op source_of axis_kind report_walk walk node_at decode power ◌⟫◌⇒◌ turned_header turned nodes
first_report = refl

kind_report : (kind_report_step turned_header nodes turned (replicate 12 7) (replicate 9 7) 9).answer
    ≡ fine (record { weights = record { non_clifford = 0; clifford = 0 }; work = 8 })
unfolding kind_report_step report_check breaks_limit exceeds_nodes exceeds_operations foreign unknown op_at decode_op source_of axis_kind report_walk walk node_at decode power ◌⟫◌⇒◌ turned_header turned nodes
kind_report = refl

-- ---- where an operation came from: an index below 65,536 or the mark, else 3; what is added by hand has the mark

sources : map source_of (0 ∷ 65535 ∷ 65536 ∷ 4294967294 ∷ 4294967295 ∷ []) ≡ OfGate 0 ∷ OfGate 65535 ∷ NoSource ∷ NoSource ∷ ByHand ∷ []
unfolding source_of
sources = refl

checked_source : ℕ → Checked
unfolding report_check breaks_limit exceeds_nodes exceeds_operations foreign unknown op_at decode_op source_of node_at decode ◌⟫◌⇒◌ header nodes
checked_source gate = report_check header nodes (1 ∷ 8 ∷ 0 ∷ 0 ∷ gate ∷ []) 12

source_tested : map checked_source (65535 ∷ 65536 ∷ 4294967294 ∷ 4294967295 ∷ []) ≡ Fine ∷ Wrong BadStore ∷ Wrong BadStore ∷ Fine ∷ []
unfolding checked_source
source_tested = refl

measured_by_hand : (measure_step header operations (axis_of (on 8)) (Bit 1)).words ≡ 1 ∷ 8 ∷ 0 ∷ 0 ∷ 0 ∷ 1 ∷ 8 ∷ 1 ∷ 2 ∷ 4294967295 ∷ []
unfolding measure_step measure_check breaks_limit exceeds_operations foreign no_operation_room ◌⟫◌⇒◌ header operations on
measured_by_hand = refl

-- ---- a node at the limit, letters enough and no more

full : ℕ → Header
full k = record { qubits = 1; cbits = 0; owner = 5; nodes = k; operations = 0; measurements = 0 }

last_node : no_node_room (full 65535) 131072 1 ≡ false
unfolding no_node_room full
last_node = refl

past_nodes : no_node_room (full 65536) 200000 1 ≡ true
unfolding no_node_room full
past_nodes = refl

letters_enough : expand_check header nodes (on 8) 1 12 ≡ Fine
unfolding expand_check breaks_limit exceeds_nodes foreign node_at decode ◌⟫◌⇒◌ header nodes on
letters_enough = refl

letters_short : expand_check header nodes (on 8) 0 12 ≡ Wrong NoScratch
unfolding expand_check breaks_limit exceeds_nodes foreign node_at decode ◌⟫◌⇒◌ header nodes on
letters_short = refl

-- ---- the least number wins

other : PauliRef
other = record { owner = 6; word = 8 }

product_order : product_check header 6 other (on 8) ≡ Wrong ForeignPauli
unfolding product_check breaks_limit exceeds_nodes foreign no_node_room ◌⟫◌⇒◌ header other on
product_order = refl

measure-foreign-first : measure_check header 5 (axis_of other) (Bit 9) ≡ Wrong ForeignPauli
unfolding measure_check breaks_limit exceeds_operations foreign no_operation_room ◌⟫◌⇒◌ header other
measure-foreign-first = refl

measure_bit_before_room : measure_check header 5 (axis_of (on 8)) (Bit 9) ≡ Wrong (ClassicalBitOutOfRange 0 9)
unfolding measure_check breaks_limit exceeds_operations foreign no_operation_room ◌⟫◌⇒◌ header on
measure_bit_before_room = refl

conditional-foreign-first : conditional_check header 5 (axis_of other) (meas_id 6 0) ≡ Wrong ForeignPauli
unfolding conditional_check breaks_limit exceeds_operations foreign unknown no_operation_room ◌⟫◌⇒◌ header other
conditional-foreign-first = refl

conditional_outcome_before_room : conditional_check header 5 (axis_of (on 8)) (meas_id 6 0) ≡ Wrong UnknownMeasurement
unfolding conditional_check breaks_limit exceeds_operations foreign unknown no_operation_room ◌⟫◌⇒◌ header on
conditional_outcome_before_room = refl

-- ---- E7: whether the two factors of a root commute

-- two qubits; nodes 5 to 12: X0 X0, X0 Z0, X0 X1, Z0 Z1, (X0 X1) (Z0 Z1), X0 (i X0), (X0 X1) Z0, (X0 Z0) (X0 Z0)
factor_words : List ℕ
factor_words = 0 ∷ 0 ∷ 5 ∷ 0 ∷ 13 ∷ 0 ∷ 5 ∷ 1 ∷ 13 ∷ 1 ∷ 18 ∷ 4 ∷ 18 ∷ 8 ∷ 18 ∷ 12 ∷ 34 ∷ 16 ∷ 114 ∷ 32 ∷ 18 ∷ 5 ∷ 114 ∷ 8 ∷ 98 ∷ 24 ∷ []

commutes : ℕ → Out Bool
unfolding expand_walk walk node_at decode image values power dense factors_commute factor_words
commutes w = bind (expand_walk 30 30 2 13 factor_words w) (λ x. fine x.commute)

commute_equal : commutes 20 ≡ fine true
unfolding commutes
commute_equal = refl

commute_not : commutes 24 ≡ fine false
unfolding commutes
commute_not = refl

-- two clashes
commute_twice : commutes 36 ≡ fine true
unfolding commutes
commute_twice = refl

-- one clash on two qubits
commute_once : commutes 44 ≡ fine false
unfolding commutes
commute_once = refl

-- a factor's phase plays no part: the product's own phase is i
commute_phased : commutes 40 ≡ fine true
unfolding commutes
commute_phased = refl

-- nor does a clash inside a factor
commute_inside : commutes 48 ≡ fine true
unfolding commutes
commute_inside = refl

-- nor the phase of the reference
commute_turned : map commutes (25 ∷ 26 ∷ 27 ∷ 37 ∷ 38 ∷ 39 ∷ []) ≡ fine false ∷ fine false ∷ fine false ∷ fine true ∷ fine true ∷ fine true ∷ []
unfolding commutes
commute_turned = refl

-- no product
commute_single : map commutes (0 ∷ 4 ∷ 5 ∷ 8 ∷ []) ≡ fine true ∷ fine true ∷ fine true ∷ fine true ∷ []
unfolding commutes
commute_single = refl
