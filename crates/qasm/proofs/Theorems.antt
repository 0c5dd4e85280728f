-- What is proved of the reader of OpenQASM 2, in the words of specs/ alone. `read_qasm` answers `answer_of (reading text)` and leaves `left_in (reading text)`.
use mathlib.Core.Path.{◌≡◌}
use mathlib.Core.List.{List}
use Prim.Native.Nat.{ℕ}
use lib.ListN.{length}
use Rattle.arena.specs.Errors.{refusal_of, refusal_in}
use Rattle.qasm.specs.Types.{BadText, NoGateRoom}
use Rattle.qasm.specs.Reading.{reading}
use Rattle.qasm.specs.Answers.{answer_of, left_in}
use Rattle.qasm.specs.Claims.{Exact, Decided, Answers}
use Rattle.qasm.proofs.Grammar.Readings
use Rattle.qasm.proofs.Grammar.Verdicts

-- the reader answers sizes and gates exactly if the text says them, and refuses at a place exactly if the text stops there
pub exact : Exact reading
exact = record { sound = Readings.sound; complete = Readings.complete; refuses = Readings.refuses; refused = Readings.refused }

-- every text of the subset is read in one way, and every other stops at one place
pub decided : (text : List ℕ) → Decided text
decided = Verdicts.decided

-- 20 at the place where the text stops; else 21 where the gates exceed the slice; else their number, the sizes, and the records in front of the slice
pub answers : (text words : List ℕ) → Answers text words (answer_of (reading text) (length words)) (left_in (reading text) words)
answers = Verdicts.answers

-- the numbers of both refusals; the operand of the first is the place
pub bad_text_refusal : (place : ℕ) → refusal_in (BadText place) ≡ refusal_of 20 0 place
bad_text_refusal = Verdicts.bad_text_refusal

pub no_gate_room_refusal : refusal_in NoGateRoom ≡ refusal_of 21 0 0
no_gate_room_refusal = Verdicts.no_gate_room_refusal
