-- What the code does to the lent words, where they lie; and the numbers by which it knows a kind.
use Rattle.std.specs.Prelude.{◌≡◌, Bool, true, false, not, cond, ◌||◌, List, [], ◌∷◌, ◌++◌, map, ℕ, zero, suc, ◌+◌, ◌*◌, ◌/◌, ◌%◌, ◌<◌, ◌≤◌, eqb, ltb, length, get_or, set}
use Rattle.std.proofs.lemmas.List.Edits.{sets}
use Rattle.pauli.specs.Gates.{Gate, gate_h, gate_x, gate_z, gate_s, gate_sdg, gate_cnot, gate_cz, AllValid}
use Rattle.arena.specs.References.{scaled_word}
use Rattle.arena.specs.Builder.{overlay, start_frame}
use Rattle.arena.specs.Limits.{max_qubits, max_cbits, max_nodes, max_operations, node_words, operation_words}
use Rattle.arena.specs.Nodes.{product_word}
use Rattle.convert.specs.Conversion.{is_measure, is_doubly, room_checked, limits}
use Rattle.arena.specs.Operations.{rotate_words, measure_words}
use Rattle.convert.specs.Words.{Words, start_words, word_run, id_x, id_z}
use Rattle.convert.specs.Types.{One, PlusI, MinusOne, MinusI, Bit, PbcError, Checked, Fine, Wrong}
use Rattle.convert.specs.Records.{GateKind, KindH, KindX, KindZ, KindS, KindSdg, KindT, KindTdg, KindCnot, KindCz, KindCcx, KindCcz, KindMeasure, KindY, KindSx, KindSwap, KindCy, Unsupported}
use Rattle.convert.specs.Records.{Cap, NoCap, AtMost, Elementary, clifford, el_t, el_tdg, el_ccx, el_ccz, el_measure, bare, From, from, without_index, lower_as, Record, record_of, records, kind_of, is_narrow, parts_as, parts_of, expanded, AllProper, lower_all}
use Rattle.pauli.specs.Letters.{phase_number}
use Rattle.pauli.specs.Rows.{Row, tally}
use Rattle.pauli.specs.Doubly.{Term, term, seven_rows}
use Rattle.pauli.specs.Table.{start, run}
use Rattle.convert.specs.Plain.{Plain, plain_begin, exceeds, flush_from, plain_run}
use Rattle.convert.specs.Code.Needs.{Needs, element_nodes, element_ops, written_nodes, written_ops, need_run}
use Rattle.convert.specs.Planes.{packed}
use Rattle.convert.specs.Code.RawPlanes.{Wide, plane_reset}
use Rattle.convert.specs.declared.count.Needed.{Needed}
use Rattle.convert.specs.Frame.{Arena, stored, word, gate_nodes, total, cliffords_of, frame_gates}

-- ---- kinds

-- the sum of f over the elementary gates that a kind is lowered to
abbrev pub over : (Elementary → ℕ) → List Elementary → ℕ
over f [] = 0
over f (e ∷ es) = f e + over f es

-- what is tested before an elementary gate: 0 nothing, 1 z of its qubit, 2 the seven products of ccx, 3 those of ccz
abbrev pub test_before : Elementary → ℕ
test_before (clifford g) = 0
test_before (el_t q) = 1
test_before (el_tdg q) = 1
test_before (el_ccx a b d) = 2
test_before (el_ccz a b d) = 3
test_before (el_measure q k) = 1

-- and before a record; what is tested stands alone
unfoldable pub tests_of : GateKind → ℕ
tests_of kind = over test_before (lower_as kind 0 0 0)

-- the seven frame gates
unfoldable pub is_frame : GateKind → Bool
is_frame kind = not (eqb (length (frame_gates kind 0 0)) 0)

-- the nodes that they push
unfoldable pub frame_nodes : GateKind → ℕ
frame_nodes kind = total gate_nodes (frame_gates kind 0 0)

-- the frame gates that a record stands for
unfoldable pub record_gates : GateKind → ℕ → ℕ → List Gate
record_gates kind a b = cliffords_of (lower_as kind a b 0)

-- a flush comes before these gates
abbrev pub any_exceeds : ℕ → Cap → List Row → List Elementary → Bool
any_exceeds n cap t [] = false
any_exceeds n cap t (e ∷ es) = exceeds n cap t e || any_exceeds n cap t es

-- ---- frame gates in the buffers

abbrev pub arena : ℕ → List ℕ → List ℕ → Arena
arena c ns fs = record { count = c; nodes = ns; frame = fs }

-- one more product, written over what the buffer has at its place
abbrev pub put_product : ℕ → ℕ → Arena → Arena
put_product l r s = arena (s.count + 1) (set (set s.nodes (node_words * s.count) (product_word l)) (node_words * s.count + 1) r) s.frame

unfoldable pub put_multiplied : ℕ → ℕ → ℕ → ℕ → Arena → Arena
put_multiplied i l r p s = stored i (4 * s.count + p) (put_product (word s l) (word s r) s)

pub record ProductPut (i l r p c : ℕ) (ns fs : List ℕ) (c' : ℕ) (ns' fs' : List ℕ) : Type 0 where
  pub same : arena c' ns' fs' ≡ put_multiplied i l r p (arena c ns fs)

-- as frame_step, in the buffers
unfoldable pub put_step : ℕ → Gate → Arena → Arena
put_step n (gate_h q) s = stored (n + q) (word s q) (stored q (word s (n + q)) s)
put_step n (gate_x q) s = stored (n + q) (scaled_word MinusOne (word s (n + q))) s
put_step n (gate_z q) s = stored q (scaled_word MinusOne (word s q)) s
put_step n (gate_s q) s = put_multiplied q q (n + q) (phase_number MinusI) s
put_step n (gate_sdg q) s = put_multiplied q q (n + q) (phase_number PlusI) s
put_step n (gate_cnot c t) s = put_multiplied (n + t) (n + c) (n + t) (phase_number One) (put_multiplied c c t (phase_number One) s)
put_step n (gate_cz c t) s = put_multiplied t (n + c) t (phase_number One) (put_multiplied c c (n + t) (phase_number One) s)

unfoldable pub put_run : ℕ → List Gate → Arena → Arena
put_run n [] s = s
put_run n (g ∷ gs) s = put_run n gs (put_step n g s)

-- the word of a node within the limit is below this
abbrev pub max_word : ℕ
max_word = 4 * max_nodes

-- the 2n frame words are such words
abbrev pub Small : ℕ → List ℕ → Type 0
Small n fs = (i : ℕ) → i < n + n → get_or fs i 0 < max_word

-- what frame gates ask of the buffers
pub record FrameReady (n : ℕ) (gs : List Gate) (c : ℕ) (ns fs : List ℕ) : Type 0 where
  pub valid : AllValid n gs
  pub qubits : n ≤ max_qubits
  pub places : n + n ≤ length fs
  pub small : Small n fs
  pub few : c + total gate_nodes gs ≤ max_nodes
  pub room : node_words * (c + total gate_nodes gs) ≤ length ns

-- what they make of them
pub record Ran (n : ℕ) (gs : List Gate) (c : ℕ) (ns fs : List ℕ) (c' : ℕ) (ns' fs' : List ℕ) : Type 0 where
  pub same : arena c' ns' fs' ≡ put_run n gs (arena c ns fs)
  pub small : Small n fs'
  pub counted : c' ≡ c + total gate_nodes gs

-- ---- records among the words

abbrev pub record_at : List ℕ → ℕ → Record
record_at gs i = record_of (get_or gs (4 * i) 0) (get_or gs (4 * i + 1) 0) (get_or gs (4 * i + 2) 0) (get_or gs (4 * i + 3) 0)

-- every record passed the checks: its kind is in the list, its operands are among the n qubits, and differ
pub record Fits (n : ℕ) (gs : List ℕ) : Type 0 where
  pub known : (i : ℕ) → i < length gs / 4 → get_or gs (4 * i) 0 < 21
  pub each : (i : ℕ) → i < length gs / 4
      → AllProper n (get_or gs (4 * i + 2) 0 + 1) (lower_as (kind_of (get_or gs (4 * i) 0)) (get_or gs (4 * i + 1) 0) (get_or gs (4 * i + 2) 0) (get_or gs (4 * i + 3) 0))
  pub bits : (i : ℕ) → i < length gs / 4
      → AllProper n max_cbits (lower_as (kind_of (get_or gs (4 * i) 0)) (get_or gs (4 * i + 1) 0) (get_or gs (4 * i + 2) 0) (get_or gs (4 * i + 3) 0))

-- ---- parts of records, by position: 16 times the record's index, and the part's number

-- the parts of a kind under a narrow cap
abbrev pub part_count : GateKind → ℕ
part_count kind = length (parts_as kind (record_of 0 0 0 0))

unfoldable pub part_at : (narrow : Bool) → List ℕ → ℕ → Record
part_at narrow gs p = get_or (parts_of narrow (record_at gs (p / 16))) (p % 16) (record_at gs (p / 16))

abbrev pub PartIn : (narrow : Bool) → List ℕ → ℕ → Type 0
PartIn narrow gs p = (p / 16 < length gs / 4) × (p % 16 < length (parts_of narrow (record_at gs (p / 16))))

-- a part, or the end
abbrev pub InParts : (narrow : Bool) → List ℕ → ℕ → Type 0
InParts narrow gs p = p < 16 * (length gs / 4) → PartIn narrow gs p

-- the next part of the record, or the first of the next record
unfoldable pub next_part : (narrow : Bool) → List ℕ → ℕ → ℕ
next_part narrow gs p = cond (ltb (p % 16 + 1) (length (parts_of narrow (record_at gs (p / 16))))) (p + 1) (16 * (p / 16) + 16)

-- so many parts further
abbrev pub stepped : (narrow : Bool) → List ℕ → ℕ → ℕ → ℕ
stepped narrow gs zero p = p
stepped narrow gs (suc k) p = stepped narrow gs k (next_part narrow gs p)

-- the words of a record
abbrev pub record_words : Record → List ℕ
record_words r = r.kind ∷ r.a ∷ r.b ∷ r.c ∷ []

-- the parts of ccx, of which ccz has all but the first and the last: 16 times the kind, 4 times the first operand, and the second; 1, 2 and 3 are
-- ccx's own operands, 0 is none
abbrev pub packed_parts : List ℕ
packed_parts = 12 ∷ 139 ∷ 108 ∷ 135 ∷ 92 ∷ 139 ∷ 108 ∷ 135 ∷ 88 ∷ 92 ∷ 134 ∷ 84 ∷ 104 ∷ 134 ∷ 12 ∷ []

abbrev pub chosen : Record → ℕ → ℕ
chosen r zero = 0
chosen r (suc zero) = r.a
chosen r (suc (suc zero)) = r.b
chosen r (suc (suc (suc s))) = r.c

abbrev pub unpacked_part : Record → ℕ → Record
unpacked_part r m = record_of (m / 16) (chosen r (m / 4 % 4)) (chosen r (m % 4)) 0

-- ---- planes before a record's operations, and after its gates

abbrev pub is_capped : Cap → Bool
is_capped NoCap = false
is_capped (AtMost most) = true

abbrev pub refreshed : Bool → ℕ → ℕ → List ℕ → List ℕ
refreshed true n l p = plane_reset n l p
refreshed false n l p = p

-- the planes under a cap are those of a table, over what was there
abbrev pub planes_for : Cap → ℕ → List Row → List ℕ → List ℕ
planes_for NoCap n t ps = ps
planes_for (AtMost most) n t ps = overlay (packed n t) ps

-- whether a flush comes before a record, whatever table the planes stand for; and the planes after it
pub record Decided (n : ℕ) (cap : Cap) (kind : GateKind) (a b d : ℕ) (ps : List ℕ) (r : Bool) (ps' : List ℕ) : Type 0 where
  pub same : (t : List Row) (ps₀ : List ℕ) → Wide n t → ps ≡ planes_for cap n t ps₀
      → (r ≡ any_exceeds n cap t (lower_as kind a b d)) × (ps' ≡ planes_for cap n (run n (record_gates kind a b) (cond r (start n) t)) ps₀)

-- ---- counts

-- nodes and operations of a record's own; nodes and operations that it adds to a flush
abbrev pub needed : ℕ → ℕ → ℕ → ℕ → Needed
needed a b c d = record { nodes = a; operations = b; joints = c; rotations = d }

unfoldable pub cost_of : GateKind → Needed
cost_of kind =
    needed (over element_nodes (lower_as kind 0 0 0)) (over element_ops (lower_as kind 0 0 0)) (total written_nodes (cliffords_of (lower_as kind 0 0 0)))
    (total written_ops (cliffords_of (lower_as kind 0 0 0)))

-- the nodes that it pushes where it is no frame gate
abbrev pub lone_nodes : GateKind → ℕ
lone_nodes k = cond (is_doubly k) 4 0

-- the measurements that a record gives
abbrev pub measures_of : GateKind → ℕ
measures_of k = tally (is_measure k) 0

-- one record more, after a flush or not
abbrev pub costs : Bool → Needed → Needed → Needed
costs true k c = needed (k.nodes + k.joints + c.nodes) (k.operations + k.rotations + c.operations) c.joints c.rotations
costs false k c = needed (k.nodes + c.nodes) (k.operations + c.operations) (k.joints + c.joints) (k.rotations + c.rotations)

-- these records more, without a flush
unfoldable pub summed : Needed → List Record → Needed
summed k [] = k
summed k (r ∷ rs) = summed (costs false k (cost_of (kind_of r.kind))) rs

-- what is counted, with a flush at the end or without
abbrev pub closed : Bool → Needed → Needed
closed true k = needed (k.nodes + k.joints) (k.operations + k.rotations) 0 0
closed false k = needed k.nodes k.operations 0 0

-- some row may weigh more than the cap
abbrev pub may_flush : ℕ → Cap → Bool
may_flush n NoCap = false
may_flush n (AtMost most) = ltb most n

-- the most that a list can need
abbrev pub most_needed : ℕ → (narrow flushed : Bool) → List ℕ → Needed
most_needed n narrow f gs = closed f (summed (needed (1 + 2 * n) 0 0 0) (expanded narrow (records gs)))

-- the count that stands beside a plain state
abbrev pub count_for : Plain → Needs → Needed
count_for p k = needed k.nodes k.operations (total written_nodes (bare p.pending)) (total written_ops (bare p.pending))

abbrev pub needs_of : ℕ → ℕ → Needs
needs_of a b = record { nodes = a; operations = b }

-- ---- what writes operations, in the buffers: nodes used, node words, operations used, operation words

pub record Writing : Type 0 where
  pub count : ℕ
  pub nodes : List ℕ
  pub used : ℕ
  pub operations : List ℕ

abbrev pub writing : ℕ → List ℕ → ℕ → List ℕ → Writing
writing c ns u os = record { count = c; nodes = ns; used = u; operations = os }

-- one more operation
abbrev pub put_op : List ℕ → Writing → Writing
put_op vs s = writing s.count s.nodes (s.used + 1) (sets s.operations (operation_words * s.used) vs)

-- one more product
abbrev pub put_node : ℕ → ℕ → Writing → Writing
put_node l r s = writing (s.count + 1) (set (set s.nodes (node_words * s.count) (product_word l)) (node_words * s.count + 1) r) s.used s.operations

unfoldable pub put_joint : ℕ → ℕ → ℕ → Writing → Writing
put_joint i l r s = put_op (rotate_words (4 * s.count) 6 i) (put_op (rotate_words r 2 i) (put_op (rotate_words l 2 i) (put_node l r s)))

-- as flush_gate, in the buffers
unfoldable pub put_flush : ℕ → Gate → Writing → Writing
put_flush i (gate_h q) s = put_op (rotate_words (id_z q) 2 i) (put_op (rotate_words (id_x q) 2 i) (put_op (rotate_words (id_z q) 2 i) s))
put_flush i (gate_x q) s = put_op (rotate_words (id_x q) 4 i) s
put_flush i (gate_z q) s = put_op (rotate_words (id_z q) 4 i) s
put_flush i (gate_s q) s = put_op (rotate_words (id_z q) 2 i) s
put_flush i (gate_sdg q) s = put_op (rotate_words (id_z q) 6 i) s
put_flush i (gate_cnot c t) s = put_joint i (id_z c) (id_x t) s
put_flush i (gate_cz c t) s = put_joint i (id_z c) (id_z t) s

unfoldable pub put_flushes : List (From Gate) → Writing → Writing
put_flushes [] s = s
put_flushes (g ∷ gs) s = put_flushes gs (put_flush g.index g.what s)

-- what gates that are flushed write in all
abbrev pub flushed_nodes : List (From Gate) → ℕ
flushed_nodes gs = total written_nodes (without_index gs)

abbrev pub flushed_ops : List (From Gate) → ℕ
flushed_ops gs = total written_ops (without_index gs)

-- what a flush of gates asks of the buffers
pub record FlushReady (n : ℕ) (gs : List (From Gate)) (c : ℕ) (ns : List ℕ) (u : ℕ) (os : List ℕ) : Type 0 where
  pub valid : AllValid n (without_index gs)
  pub qubits : n ≤ max_qubits
  pub few : c + flushed_nodes gs ≤ max_nodes
  pub room : node_words * (c + flushed_nodes gs) ≤ length ns
  pub fewer : u + flushed_ops gs ≤ max_operations
  pub place : operation_words * (u + flushed_ops gs) ≤ length os

-- what it makes of them
pub record Flushed (gs : List (From Gate)) (c : ℕ) (ns : List ℕ) (u : ℕ) (os : List ℕ) (c' : ℕ) (ns' : List ℕ) (u' : ℕ) (os' : List ℕ) : Type 0 where
  pub same : writing c' ns' u' os' ≡ put_flushes gs (writing c ns u os)
  pub counted : c' ≡ c + flushed_nodes gs
  pub turned : u' ≡ u + flushed_ops gs

-- the frame gates of record i, and of so many parts from a position on
abbrev pub record_from : ℕ → GateKind → ℕ → ℕ → List (From Gate)
record_from i kind a b = map (from i) (record_gates kind a b)

abbrev pub gates_over : (narrow : Bool) → List ℕ → ℕ → ℕ → List (From Gate)
gates_over narrow gs p zero = []
gates_over narrow gs p (suc k) =
    record_from (p / 16) (kind_of (part_at narrow gs p).kind) (part_at narrow gs p).a (part_at narrow gs p).b ++ gates_over narrow gs (next_part narrow gs p) k

-- the buffers are ready for a flush of the parts from one position to another
pub record FlushOver (n : ℕ) (narrow : Bool) (gs : List ℕ) (first to : ℕ) (c : ℕ) (ns : List ℕ) (u : ℕ) (os : List ℕ) : Type 0 where
  pub count : ℕ
  pub ends : stepped narrow gs count first ≡ to
  pub ready : FlushReady n (gates_over narrow gs first count) c ns u os

-- ---- ccx and ccz, by the words of a, b and d

-- row j of the seven
abbrev pub row_at : ℕ → Term
row_at j = get_or seven_rows j (term false false false 0)

-- a is 1, b is 2, d is 4
abbrev pub subset_of : Term → ℕ
subset_of t = tally t.a 0 + 2 * tally t.b 0 + 4 * tally t.d 0

-- the word of the product of the operands in a subset, where k is the node ab
abbrev pub subset_word : ℕ → ℕ → ℕ → ℕ → ℕ → ℕ
subset_word zero a b d k = 0
subset_word (suc zero) a b d k = a
subset_word (suc (suc zero)) a b d k = b
subset_word (suc (suc (suc zero))) a b d k = 4 * k
subset_word (suc (suc (suc (suc zero)))) a b d k = d
subset_word (suc (suc (suc (suc (suc zero))))) a b d k = 4 * (k + 1)
subset_word (suc (suc (suc (suc (suc (suc zero)))))) a b d k = 4 * (k + 2)
subset_word (suc (suc (suc (suc (suc (suc (suc j))))))) a b d k = 4 * (k + 3)

-- the first j rotations, for record i
unfoldable pub put_rows : ℕ → ℕ → ℕ → ℕ → ℕ → ℕ → Writing → Writing
put_rows i zero a b d k s = s
put_rows i (suc j) a b d k s = put_op (rotate_words (subset_word (subset_of (row_at j)) a b d k) (row_at j).angle i) (put_rows i j a b d k s)

-- ab, ad, bd and (ab)d are pushed
unfoldable pub put_four : ℕ → ℕ → ℕ → Writing → Writing
put_four a b d s = put_node (4 * s.count) d (put_node b d (put_node a d (put_node a b s)))

unfoldable pub put_seven : ℕ → ℕ → ℕ → ℕ → Writing → Writing
put_seven i a b d s = put_rows i 7 a b d s.count (put_four a b d s)

-- where the frame has the third operand: ccz its z, ccx its x
abbrev pub last_place : GateKind → ℕ → ℕ → ℕ
last_place kind n d = cond (eqb (tests_of kind) 3) (n + d) d

-- what record i writes that is no frame gate, after so many measurements, by the frame words
unfoldable pub put_record : ℕ → ℕ → ℕ → GateKind → ℕ → ℕ → ℕ → List ℕ → Writing → Writing
put_record n given i KindH a b d fs s = s
put_record n given i KindX a b d fs s = s
put_record n given i KindZ a b d fs s = s
put_record n given i KindS a b d fs s = s
put_record n given i KindSdg a b d fs s = s
put_record n given i KindT a b d fs s = put_op (rotate_words (get_or fs (n + a) 0) 1 i) s
put_record n given i KindTdg a b d fs s = put_op (rotate_words (get_or fs (n + a) 0) 7 i) s
put_record n given i KindCnot a b d fs s = s
put_record n given i KindCz a b d fs s = s
put_record n given i KindCcx a b d fs s = put_seven i (get_or fs (n + a) 0) (get_or fs (n + b) 0) (get_or fs d 0) s
put_record n given i KindCcz a b d fs s = put_seven i (get_or fs (n + a) 0) (get_or fs (n + b) 0) (get_or fs (n + d) 0) s
put_record n given i KindMeasure a b d fs s = put_op (measure_words (get_or fs (n + a) 0) given (Bit b) i) s
put_record n given i KindY a b d fs s = s
put_record n given i KindSx a b d fs s = s
put_record n given i KindSwap a b d fs s = s
put_record n given i KindCy a b d fs s = s
put_record n given i Unsupported a b d fs s = s

-- what it asks of the buffers
pub record RecordReady (n given : ℕ) (kind : GateKind) (a b d c : ℕ) (ns : List ℕ) (u : ℕ) (os fs : List ℕ) : Type 0 where
  pub proper : AllProper n max_cbits (lower_as kind a b d)
  pub qubits : n ≤ max_qubits
  pub places : n + n ≤ length fs
  pub small : Small n fs
  pub few : c + lone_nodes kind ≤ max_nodes
  pub room : node_words * (c + lone_nodes kind) ≤ length ns
  pub fewer : u + (cost_of kind).operations ≤ max_operations
  pub place : operation_words * (u + (cost_of kind).operations) ≤ length os

-- what a flush, if there is one, makes of the buffers: the pending gates are written and the frame starts again
pub record FlushedIf (f : Bool) (n : ℕ) (gs : List (From Gate)) (c : ℕ) (ns fs : List ℕ) (u : ℕ) (os : List ℕ) (c' : ℕ) (ns' fs' : List ℕ) (u' : ℕ) (os' : List ℕ) : Type 0 where
  pub is : f ≡ true → Flushed gs c ns u os c' ns' u' os'
  pub frame : f ≡ true → fs' ≡ overlay (start_frame n) fs
  pub not : f ≡ false → (c' ≡ c) × (ns' ≡ ns) × (fs' ≡ fs) × (u' ≡ u) × (os' ≡ os)

-- ---- the ends of a conversion

abbrev pub plain_last : ℕ → Cap → List ℕ → Plain
plain_last n cap gs = plain_run flush_from n cap (lower_all (is_narrow cap) (records gs)) (plain_begin n)

abbrev pub words_last : ℕ → Cap → List ℕ → Words
words_last n cap gs = word_run n cap (lower_all (is_narrow cap) (records gs)) (plain_begin n) (start_words n)

abbrev pub needs_last : ℕ → Cap → List ℕ → Needs
needs_last n cap gs = need_run n cap (lower_all (is_narrow cap) (records gs)) (plain_begin n) (needs_of (1 + 2 * n) 0)

-- the needs fit
pub record Room (n : ℕ) (cap : Cap) (gs ns os : List ℕ) : Type 0 where
  pub nodes : (needs_last n cap gs).nodes ≤ max_nodes
  pub nodes_lent : node_words * (needs_last n cap gs).nodes ≤ length ns
  pub operations : (needs_last n cap gs).operations ≤ max_operations
  pub operations_lent : operation_words * (needs_last n cap gs).operations ≤ length os

-- ---- the checks of what is needed

-- the checks of what a conversion needs; the planes are those of its end, or not begun where the most that it can need fits
pub record NeedsChecked (n : ℕ) (cap : Cap) (gs : List ℕ) (frame node-words operation-words : ℕ) (ps : List ℕ) (r : Checked) (ps' : List ℕ) : Type 0 where
  pub same : r ≡ room_checked limits Fine (needs_last n cap gs).nodes (needs_last n cap gs).operations n frame node-words operation-words
  pub planes : (t : List Row) → planes_for cap n t ps' ≡ planes_for cap n t ps
  pub ended : (e : PbcError) → r ≡ Wrong e → ps' ≡ planes_for cap n (plain_last n cap gs).table ps
