-- How the words of a caller stand for a header, a handle, a letter, an angle and a target, and how a reply is written to words.
use Rattle.std.specs.Prelude.{Bool, true, false, cond, ◌||◌, List, [], ◌∷◌, ℕ, zero, suc, ◌%◌, ℤ, ltb, get_or, Result, Ok, Err}
use Rattle.std.proofs.lemmas.List.Edits.{sets}
use Rattle.pauli.specs.Angle.{remainder8}
use Rattle.pauli.specs.Letters.{pauli_of}
use Rattle.arena.specs.Errors.{refusal_in}
use Rattle.exports.specs.Types.{Pauli, PauliAngle, Header, PauliRef, PauliAxis, Target, Bit, NoTarget, PbcError}

-- ---- what a call has to say: the new header and up to three values; values alone, where no header changes; or why it was refused

pub data Reply : Type 0 where
  Accepted : (header : Header) (first second third : ℕ) → Reply
  Values : (first second third : ℕ) → Reply
  Refused : (error : PbcError) → Reply

-- the same from an answer of the code: a header and a value, or three values
unfoldable pub made_reply : Result (Header × ℕ) PbcError → Reply
made_reply (Ok made) = Accepted made.0 made.1 0 0
made_reply (Err e) = Refused e

unfoldable pub values_reply : Result (ℕ × ℕ × ℕ) PbcError → Reply
values_reply (Ok made) = Values made.0 made.1 made.2
values_reply (Err e) = Refused e

-- ---- what is read

-- a word as a number of 32 bits: one too large counts as the largest
unfoldable pub field_in : ℕ → ℕ
field_in w = cond (ltb w 4294967296) w 4294967295

-- six words: qubits, cbits, owner, nodes, operations, measurements
unfoldable pub header_in : List ℕ → Header
header_in ws = record {
  qubits = field_in (get_or ws 0 0);
  cbits = field_in (get_or ws 1 0);
  owner = get_or ws 2 0;
  nodes = field_in (get_or ws 3 0);
  operations = field_in (get_or ws 4 0);
  measurements = field_in (get_or ws 5 0);
}

-- a handle: an owner and a word
abbrev pub handle_in : ℕ → ℕ → PauliRef
handle_in owner word = record { owner = owner; word = word }

abbrev pub handle_axis : ℕ → ℕ → PauliAxis
handle_axis owner word = record { 0 = handle_in owner word }

-- a letter's number counts modulo 4
unfoldable pub letter_in : ℕ → Pauli
letter_in n = pauli_of (n % 4)

-- an angle's counts modulo 8
unfoldable pub angle_in : ℤ → PauliAngle
angle_in k = record { 0 = remainder8 k }

-- one more than the classical bit, 0 for none
unfoldable pub target_in : ℕ → Target
target_in zero = NoTarget
target_in (suc bit) = Bit (field_in bit)

-- ---- what is written

-- the header has fewer than six words, or the answer fewer than four: then a function returns 255 and does nothing
unfoldable pub too_short : (header answer : ℕ) → Bool
too_short header answer = ltb header 6 || ltb answer 4

-- what a function returns: 0, or the refusal's number
unfoldable pub number_in : Reply → ℕ
number_in (Accepted h a b c) = 0
number_in (Values a b c) = 0
number_in (Refused e) = (refusal_in e).number

abbrev pub header_words : Header → List ℕ
header_words h = h.qubits ∷ h.cbits ∷ h.owner ∷ h.nodes ∷ h.operations ∷ h.measurements ∷ []

-- the new header, where the call is accepted
unfoldable pub header_left : Reply → List ℕ → List ℕ
header_left (Accepted h a b c) ws = sets ws 0 (header_words h)
header_left (Values a b c) ws = ws
header_left (Refused e) ws = ws

-- the values, and 0 for the rest; or the refusal's index and operand
unfoldable pub answer_left : Reply → List ℕ → List ℕ
answer_left (Accepted h a b c) ws = sets ws 0 (a ∷ b ∷ c ∷ 0 ∷ [])
answer_left (Values a b c) ws = sets ws 0 (a ∷ b ∷ c ∷ 0 ∷ [])
answer_left (Refused e) ws = sets ws 0 ((refusal_in e).index ∷ (refusal_in e).operand ∷ 0 ∷ 0 ∷ [])

-- ---- what a function for C returns, and leaves in the slices lent

pub record Returned (B : Type 0) : Type 0 where
  pub number : ℕ
  pub answer : List ℕ
  pub words : B

abbrev pub returned : {B : Type 0} → ℕ → List ℕ → B → Returned B
returned number answer words = record { number = number; answer = answer; words = words }

-- 255 and all words as they were; or the reply, with the words that the call left
abbrev pub replied : {B : Type 0} → (short : Bool) → (answer : List ℕ) → (was : B) → Reply → (left : B) → Returned B
replied true answer was reply left = returned 255 answer was
replied false answer was reply left = returned (number_in reply) (answer_left reply answer) left
