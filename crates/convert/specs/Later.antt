-- The later calls on a converted circuit, run by the definitions that the contracts cite, and the gates that they feed to the plain table.
use Rattle.std.specs.Prelude.{◌≡◌, List, [], ◌∷◌, ◌++◌, ℕ, ◌*◌, take}
use Rattle.pauli.specs.Gates.{Gate}
use Rattle.arena.specs.Limits.{operation_words}
use Rattle.arena.specs.Builder.{single_step, product_step, rotate_step, measure_step, conditional_step}
use Rattle.convert.specs.Types.{Pauli, PauliAngle, Header, PauliRef, PauliAxis, MeasId, Target, SingledMade, SingledRefused, MultipliedMade, MultipliedRefused}
use Rattle.convert.specs.Types.{PushedMade, PushedRefused, MeasuredMade, MeasuredRefused}
use Rattle.convert.specs.Records.{kind_of}
use Rattle.convert.specs.Frame.{FramePushedMade, FramePushedRefused, frame_gates, clifford_step}
use Rattle.convert.specs.Conversion.{Input, converted_header, convert_step}

-- what stays between calls: the header, and the words as they are lent, used or not
pub record Circuit : Type 0 where
  pub header : Header
  pub nodes : List ℕ
  pub operations : List ℕ
  pub frame : List ℕ

abbrev pub circuit_of : Header → (nodes operations frame : List ℕ) → Circuit
circuit_of h nodes operations frame = record { header = h; nodes = nodes; operations = operations; frame = frame }

-- what an accepted conversion leaves
unfoldable pub converted : Input → Circuit
converted x = circuit_of (converted_header x) (convert_step x).nodes (convert_step x).operations (convert_step x).frame

-- a call with all that it is lent besides; the last is none: the caller goes on with other operation words
pub data LaterCall : Type 0 where
  call_frame : (kind a b : ℕ) → LaterCall
  call_single : (qubit : ℕ) → Pauli → LaterCall
  call_product : (left right : PauliRef) → LaterCall
  call_rotate : PauliAxis → PauliAngle → LaterCall
  call_measure : PauliAxis → Target → LaterCall
  call_conditional : PauliAxis → PauliAngle → MeasId → LaterCall
  call_expand : (letters scratch pool : List ℕ) → PauliRef → (cells : ℕ) → LaterCall
  call_hermitian : (scratch pool : List ℕ) → PauliRef → (limit : ℕ) → LaterCall
  call_weights : (scratch pool : List ℕ) → (limit : ℕ) → LaterCall
  lend_operations : List ℕ → LaterCall

-- the circuit after a call: the header that it answers, or the one before where it refuses, and the words that it leaves; readers leave all
unfoldable pub later : LaterCall → Circuit → Circuit
later (call_frame k a b) s =
    let r = clifford_step s.header s.nodes s.frame k a b in
    circuit_of (elim r.answer [ FramePushedMade h ↦ h | FramePushedRefused e ↦ s.header ]) r.words.nodes s.operations r.words.frame
later (call_single q a) s =
    let r = single_step s.header s.nodes q a in
    circuit_of (elim r.answer [ SingledMade h x ↦ h | SingledRefused e ↦ s.header ]) r.words s.operations s.frame
later (call_product l m) s =
    let r = product_step s.header s.nodes l m in
    circuit_of (elim r.answer [ MultipliedMade h x ↦ h | MultipliedRefused e ↦ s.header ]) r.words s.operations s.frame
later (call_rotate x k) s =
    let r = rotate_step s.header s.operations x k in
    circuit_of (elim r.answer [ PushedMade h ↦ h | PushedRefused e ↦ s.header ]) s.nodes r.words s.frame
later (call_measure x t) s =
    let r = measure_step s.header s.operations x t in
    circuit_of (elim r.answer [ MeasuredMade h m ↦ h | MeasuredRefused e ↦ s.header ]) s.nodes r.words s.frame
later (call_conditional x k m) s =
    let r = conditional_step s.header s.operations x k m in
    circuit_of (elim r.answer [ PushedMade h ↦ h | PushedRefused e ↦ s.header ]) s.nodes r.words s.frame
later (call_expand letters scratch pool r cells) s = s
later (call_hermitian scratch pool r limit) s = s
later (call_weights scratch pool limit) s = s
later (lend_operations words) s = circuit_of s.header s.nodes words s.frame

unfoldable pub laters : List LaterCall → Circuit → Circuit
laters [] s = s
laters (c ∷ cs) s = laters cs (later c s)

-- ---- what the plain table is fed

-- an accepted frame gate; all else, refused calls too, feeds nothing
unfoldable pub gates_of : LaterCall → Circuit → List Gate
gates_of (call_frame k a b) s =
    elim (clifford_step s.header s.nodes s.frame k a b).answer [ FramePushedMade h ↦ frame_gates (kind_of k) a b | FramePushedRefused e ↦ [] ]
gates_of (call_single q a) s = []
gates_of (call_product l r) s = []
gates_of (call_rotate x k) s = []
gates_of (call_measure x t) s = []
gates_of (call_conditional x k m) s = []
gates_of (call_expand letters scratch pool r cells) s = []
gates_of (call_hermitian scratch pool r limit) s = []
gates_of (call_weights scratch pool limit) s = []
gates_of (lend_operations words) s = []

unfoldable pub fed : List LaterCall → Circuit → List Gate
fed [] s = []
fed (c ∷ cs) s = gates_of c s ++ fed cs (later c s)

-- ---- the operations in use are carried along

-- other operation words that a caller goes on with hold those in use
abbrev pub Carried : LaterCall → Circuit → Type 0
Carried (call_frame k a b) s = Unit {0}
Carried (call_single q a) s = Unit {0}
Carried (call_product l r) s = Unit {0}
Carried (call_rotate x k) s = Unit {0}
Carried (call_measure x t) s = Unit {0}
Carried (call_conditional x k m) s = Unit {0}
Carried (call_expand letters scratch pool r cells) s = Unit {0}
Carried (call_hermitian scratch pool r limit) s = Unit {0}
Carried (call_weights scratch pool limit) s = Unit {0}
Carried (lend_operations words) s =
    take (operation_words * s.header.operations) words ≡ take (operation_words * s.header.operations) s.operations

unfoldable pub AllCarried : List LaterCall → Circuit → Type 0
AllCarried [] s = Unit {0}
AllCarried (c ∷ cs) s = Carried c s × AllCarried cs (later c s)
