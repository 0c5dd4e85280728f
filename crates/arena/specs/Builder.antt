-- What the calls that make a circuit and add to it answer, and what they leave in the slices lent: for acceptance and every refusal.
use Rattle.std.specs.Prelude.{cond, ◌||◌, List, [], ◌∷◌, ◌++◌, ℕ, zero, suc, ◌+◌, ◌*◌, ◌/◌, leb, ltb, eqb, length, drop, Result, Ok}
use Rattle.std.proofs.lemmas.List.Edits.{sets}
use Rattle.pauli.specs.Angle.{eighths_of}
use Rattle.arena.specs.Types.{Pauli, I, X, Y, Z, PauliAngle}
use Rattle.arena.specs.Limits.{max_qubits, max_cbits, node_words, operation_words, hand_mark}
use Rattle.arena.specs.Errors.{PbcError, TooManyQubits, BadStore, ForeignPauli, QubitOutOfRange, ClassicalBitOutOfRange, UnknownMeasurement, NoFrame, NoNodes, NoOperations, Checked, Fine}
use Rattle.arena.specs.Errors.{Wrong, ◌⟫◌⇒◌}
use Rattle.arena.specs.References.{PauliRef, PauliAxis, axis_of}
use Rattle.arena.specs.Nodes.{single_word, product_word}
use Rattle.arena.specs.Operations.{MeasId, meas_id, Target, rotate_words, measure_words, conditional_words}
use Rattle.arena.specs.Store.{Header, breaks_limit, exceeds_nodes, exceeds_operations, foreign, unknown, target_bit, target_outside, no_node_room, no_operation_room}
pub use Rattle.std.specs.Prelude.{Ok as CreatedMade, Err as CreatedRefused, Err as SingledRefused, Err as MultipliedRefused, Ok as PushedMade, Err as PushedRefused, Err as MeasuredRefused}

-- what the calls answer: what was made, or a refusal
abbrev pub Created : Type 0
Created = Result Header PbcError

abbrev pub Pushed : Type 0
Pushed = Result Header PbcError

abbrev pub Singled : Type 0
Singled = Result (Header × PauliAxis) PbcError

abbrev pub Multiplied : Type 0
Multiplied = Result (Header × PauliRef) PbcError

abbrev pub Measured : Type 0
Measured = Result (Header × MeasId) PbcError

pattern abbrev pub SingledMade : Header → PauliAxis → Singled
SingledMade h axis = Ok (h, axis)

pattern abbrev pub MultipliedMade : Header → PauliRef → Multiplied
MultipliedMade h r = Ok (h, r)

pattern abbrev pub MeasuredMade : Header → MeasId → Measured
MeasuredMade h m = Ok (h, m)

-- a call's answer, and the lent words that it may write as it leaves them
pub record Step (A B : Type 0) : Type 0 where
  pub answer : A
  pub words : B

abbrev pub step_of : {A B : Type 0} → A → B → Step A B
step_of a ws = record { answer = a; words = ws }

-- what the checks decide: the step, or a refusal that leaves the words
abbrev pub decided : {A B : Type 0} → Checked → (PbcError → A) → B → Step A B → Step A B
decided (Ok u) refused ws step = step
decided (Wrong e) refused ws step = step_of (refused e) ws

-- ---- a new circuit: node 0 is the identity, then X and Z of qubit 0, of qubit 1, and so on

abbrev pub qubit_nodes : ℕ → List ℕ
qubit_nodes zero = []
qubit_nodes (suc q) = qubit_nodes q ++ (single_word X ∷ q ∷ single_word Z ∷ q ∷ [])

abbrev pub start_nodes : ℕ → List ℕ
start_nodes n = 0 ∷ 0 ∷ qubit_nodes n

-- the words of every other node from `first` on, for so many qubits
abbrev pub image_words : ℕ → ℕ → List ℕ
image_words first zero = []
image_words first (suc q) = image_words first q ++ (4 * (first + 2 * q) ∷ [])

-- the frame: x images, then z images
abbrev pub start_frame : ℕ → List ℕ
start_frame n = image_words 1 n ++ image_words 2 n

-- new words, and past them what was there
abbrev pub overlay : List ℕ → List ℕ → List ℕ
overlay us ws = us ++ drop (length us) ws

-- the frame as at the start, where the qubits are within the limit and the words have room
unfoldable pub frame_started : ℕ → List ℕ → List ℕ
frame_started n ws = cond (ltb max_qubits n || ltb (length ws) (2 * n)) ws (overlay (start_frame n) ws)

pub record NodesAndFrame : Type 0 where
  pub nodes : List ℕ
  pub frame : List ℕ

unfoldable pub new_check : ℕ → ℕ → ℕ → ℕ → Checked
new_check qubits cbits nodes frame =
    Fine
    ⟫ ltb max_qubits qubits || ltb max_cbits cbits ⇒ TooManyQubits
    ⟫ ltb frame (2 * qubits) ⇒ NoFrame
    ⟫ ltb (nodes / node_words) (1 + 2 * qubits) ⇒ NoNodes

abbrev pub header_of : (qubits cbits owner nodes operations measurements : ℕ) → Header
header_of q c o k m g = record { qubits = q; cbits = c; owner = o; nodes = k; operations = m; measurements = g }

abbrev pub new_header : ℕ → ℕ → ℕ → Header
new_header qubits cbits owner = header_of qubits cbits owner (1 + 2 * qubits) 0 0

unfoldable pub new_step : ℕ → ℕ → ℕ → List ℕ → List ℕ → Step Created NodesAndFrame
new_step qubits cbits owner nodes frame =
    decided (new_check qubits cbits (length nodes) (length frame)) CreatedRefused
    (record { nodes = nodes; frame = frame })
    (step_of (CreatedMade (new_header qubits cbits owner)) (record { nodes = overlay (start_nodes qubits) nodes; frame = overlay (start_frame qubits) frame }))

-- ---- nodes

abbrev pub with_nodes : ℕ → Header → Header
with_nodes k h = header_of h.qubits h.cbits h.owner k h.operations h.measurements

-- one more node of two words, and the reference to it
abbrev pub node_put : Header → List ℕ → ℕ → ℕ → List ℕ
node_put h ws a b = sets ws (node_words * h.nodes) (a ∷ b ∷ [])

abbrev pub ref_to : Header → ℕ → PauliRef
ref_to h node = record { owner = h.owner; word = 4 * node }

-- the nodes that a letter adds: I is node 0
abbrev pub nodes_for : Pauli → ℕ
nodes_for I = 0
nodes_for X = 1
nodes_for Y = 1
nodes_for Z = 1

unfoldable pub single_check : Header → ℕ → ℕ → Pauli → Checked
single_check h len q a =
    Fine
    ⟫ breaks_limit h || exceeds_nodes h len ⇒ BadStore
    ⟫ leb h.qubits q ⇒ QubitOutOfRange 0 q
    ⟫ no_node_room h len (nodes_for a) ⇒ NoNodes

unfoldable pub single_step : Header → List ℕ → ℕ → Pauli → Step Singled (List ℕ)
single_step h ws q a =
    decided (single_check h (length ws) q a) SingledRefused ws
    (cond (eqb (nodes_for a) 0)
    (step_of (SingledMade h (axis_of (ref_to h 0))) ws)
    (step_of (SingledMade (with_nodes (h.nodes + 1) h) (axis_of (ref_to h h.nodes))) (node_put h ws (single_word a) q)))

unfoldable pub product_check : Header → ℕ → PauliRef → PauliRef → Checked
product_check h len l r =
    Fine
    ⟫ breaks_limit h || exceeds_nodes h len ⇒ BadStore
    ⟫ foreign h l || foreign h r ⇒ ForeignPauli
    ⟫ no_node_room h len 1 ⇒ NoNodes

unfoldable pub product_step : Header → List ℕ → PauliRef → PauliRef → Step Multiplied (List ℕ)
product_step h ws l r =
    decided (product_check h (length ws) l r) MultipliedRefused ws
    (step_of (MultipliedMade (with_nodes (h.nodes + 1) h) (ref_to h h.nodes)) (node_put h ws (product_word l.word) r.word))

-- ---- operations: what a call adds is marked as added by hand

-- one more operation, and so many measurements
abbrev pub with_operation : ℕ → Header → Header
with_operation m h = header_of h.qubits h.cbits h.owner h.nodes (h.operations + 1) m

-- the words of operation i at its place, where there is room for them
unfoldable pub operation_written : ℕ → List ℕ → List ℕ → List ℕ
operation_written i vs ws = cond (ltb (length ws) (operation_words * i + operation_words)) ws (sets ws (operation_words * i) vs)

abbrev pub operation_put : Header → List ℕ → List ℕ → List ℕ
operation_put h ws vs = sets ws (operation_words * h.operations) vs

-- the header and the slice, then the axis
abbrev pub axis_check : Header → ℕ → PauliAxis → Checked
axis_check h len axis = Fine ⟫ breaks_limit h || exceeds_operations h len ⇒ BadStore ⟫ foreign h axis.0 ⇒ ForeignPauli

unfoldable pub rotate_check : Header → ℕ → PauliAxis → Checked
rotate_check h len axis = axis_check h len axis ⟫ no_operation_room h len 1 ⇒ NoOperations

unfoldable pub rotate_step : Header → List ℕ → PauliAxis → PauliAngle → Step Pushed (List ℕ)
rotate_step h ws axis angle =
    decided (rotate_check h (length ws) axis) PushedRefused ws
    (step_of (PushedMade (with_operation h.measurements h)) (operation_put h ws (rotate_words axis.0.word (eighths_of angle) hand_mark)))

unfoldable pub measure_check : Header → ℕ → PauliAxis → Target → Checked
measure_check h len axis target =
    axis_check h len axis ⟫ target_outside h target ⇒ ClassicalBitOutOfRange 0 (target_bit target) ⟫ no_operation_room h len 1 ⇒ NoOperations

unfoldable pub measure_step : Header → List ℕ → PauliAxis → Target → Step Measured (List ℕ)
measure_step h ws axis target =
    decided (measure_check h (length ws) axis target) MeasuredRefused ws
    (step_of (MeasuredMade (with_operation (h.measurements + 1) h) (meas_id h.owner h.measurements))
    (operation_put h ws (measure_words axis.0.word h.measurements target hand_mark)))

unfoldable pub conditional_check : Header → ℕ → PauliAxis → MeasId → Checked
conditional_check h len axis outcome = axis_check h len axis ⟫ unknown h outcome ⇒ UnknownMeasurement ⟫ no_operation_room h len 1 ⇒ NoOperations

unfoldable pub conditional_step : Header → List ℕ → PauliAxis → PauliAngle → MeasId → Step Pushed (List ℕ)
conditional_step h ws axis angle outcome =
    decided (conditional_check h (length ws) axis outcome) PushedRefused ws
    (step_of (PushedMade (with_operation h.measurements h)) (operation_put h ws (conditional_words axis.0.word (eighths_of angle) outcome.1 hand_mark)))
