-- What each function for C returns, and what it leaves in the slices lent: accepted, refused, or lent too few words.
use Rattle.std.specs.Prelude.{List, ℕ, ◌+◌, ◌*◌, ◌%◌, ℤ, length, Result, Ok, Err}
use Rattle.pauli.specs.Letters.{number_product}
use Rattle.arena.specs.Operations.{meas_id}
use Rattle.arena.specs.Builder.{Step, NodesAndFrame, new_step, single_step, product_step, rotate_step, measure_step, conditional_step}
use Rattle.exports.specs.Types.{Header, PauliAxis, PauliRef, MeasId, PbcError}
use Rattle.exports.specs.Words.{header_in, handle_in, handle_axis, letter_in, angle_in, target_in, too_short, Reply, Accepted, Refused, header_left, Returned, replied}

-- ---- replies: the header and up to three values, or a refusal

unfoldable pub header_reply : Result Header PbcError → Reply
header_reply (Ok h) = Accepted h 0 0 0
header_reply (Err e) = Refused e

unfoldable pub singled_reply : Result (Header × PauliAxis) PbcError → Reply
singled_reply (Ok made) = Accepted made.0 made.1.0.word 0 0
singled_reply (Err e) = Refused e

unfoldable pub multiplied_reply : Result (Header × PauliRef) PbcError → Reply
multiplied_reply (Ok made) = Accepted made.0 made.1.word 0 0
multiplied_reply (Err e) = Refused e

unfoldable pub measured_reply : Result (Header × MeasId) PbcError → Reply
measured_reply (Ok made) = Accepted made.0 made.1.1 0 0
measured_reply (Err e) = Refused e

-- ---- calls that give a header

-- the header's words, and the other words that a call may write
pub record Headed (B : Type 0) : Type 0 where
  pub header : List ℕ
  pub words : B

abbrev pub headed : {B : Type 0} → List ℕ → B → Headed B
headed header words = record { header = header; words = words }

abbrev pub lent_words : (nodes frame : List ℕ) → NodesAndFrame
lent_words nodes frame = record { nodes = nodes; frame = frame }

-- what a call's answer and words come to
abbrev pub exported : {A B : Type 0} → (header answer : List ℕ) → (was : B) → (A → Reply) → Step A B → Returned (Headed B)
exported header answer was reply step =
    replied (too_short (length header) (length answer)) answer (headed header was) (reply step.answer)
    (headed (header_left (reply step.answer) header) step.words)

unfoldable pub new_call : (qubits cbits owner : ℕ) → (nodes frame header answer : List ℕ) → Returned (Headed NodesAndFrame)
new_call qubits cbits owner nodes frame header answer =
    exported header answer (lent_words nodes frame) header_reply
    (new_step qubits cbits owner nodes frame)

unfoldable pub single_call : (header nodes : List ℕ) → (qubit letter : ℕ) → (answer : List ℕ) → Returned (Headed (List ℕ))
single_call header nodes qubit letter answer =
    exported header answer nodes singled_reply (single_step (header_in header) nodes qubit (letter_in letter))

unfoldable pub product_call : (header nodes : List ℕ) → (leftOwner left rightOwner right : ℕ) → (answer : List ℕ) → Returned (Headed (List ℕ))
product_call header nodes leftOwner left rightOwner right answer =
    exported header answer nodes multiplied_reply
    (product_step (header_in header) nodes (handle_in leftOwner left) (handle_in rightOwner right))

unfoldable pub rotate_call : (header operations : List ℕ) → (owner word : ℕ) → (angle : ℤ) → (answer : List ℕ) → Returned (Headed (List ℕ))
rotate_call header operations owner word angle answer =
    exported header answer operations header_reply
    (rotate_step (header_in header) operations (handle_axis owner word) (angle_in angle))

unfoldable pub measure_call : (header operations : List ℕ) → (owner word target : ℕ) → (answer : List ℕ) → Returned (Headed (List ℕ))
measure_call header operations owner word target answer =
    exported header answer operations measured_reply
    (measure_step (header_in header) operations (handle_axis owner word) (target_in target))

unfoldable pub conditional_call :
    (header operations : List ℕ) → (owner word : ℕ) → (angle : ℤ) → (measurementOwner measurement : ℕ) → (answer : List ℕ)
    → Returned (Headed (List ℕ))
conditional_call header operations owner word angle measurementOwner measurement answer =
    exported header answer operations header_reply
    (conditional_step (header_in header) operations (handle_axis owner word) (angle_in angle) (meas_id measurementOwner measurement))

-- ---- letters: the product of two, as 4 × phase + letter

unfoldable pub times_number : ℕ → ℕ → ℕ
times_number a b = 4 * (number_product (a % 4) (b % 4)).phase + (number_product (a % 4) (b % 4)).pauli
