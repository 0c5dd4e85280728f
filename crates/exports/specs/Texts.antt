-- What each function on a text returns, and what it leaves in the slices lent. There is no header: the answer alone may be too short.
use Rattle.std.specs.Prelude.{List, ℕ, ltb, length, Result, Ok, Err}
use Rattle.qasm.specs.Reading.{Read, reading}
use Rattle.qasm.specs.Answers.{answer_of, left_in}
use Rattle.qasm.specs.Position.{position_in}
use Rattle.exports.specs.Types.{PbcError, Program, TextPosition}
use Rattle.exports.specs.Words.{Reply, Values, Refused, Returned, replied}

-- ---- read_qasm: the values are the number of gate records, of qubits and of classical bits

unfoldable pub program_reply : Result Program PbcError → Reply
program_reply (Ok p) = Values p.gates p.qubits p.cbits
program_reply (Err e) = Refused e

abbrev pub read_with : Read → (gates answer : List ℕ) → Returned (List ℕ)
read_with read gates answer = replied (ltb (length answer) 4) answer gates (program_reply (answer_of read (length gates))) (left_in read gates)

unfoldable pub read_qasm_call : (text gates answer : List ℕ) → Returned (List ℕ)
read_qasm_call text gates answer = read_with (reading text) gates answer

-- ---- text_position: the values are the line and the column; nothing is lent but the answer

unfoldable pub position_reply : TextPosition → Reply
position_reply p = Values p.line p.column 0

unfoldable pub text_position_call : (text : List ℕ) → (place : ℕ) → (answer : List ℕ) → Returned (Unit {0})
text_position_call text place answer = replied (ltb (length answer) 4) answer tt (position_reply (position_in text place)) tt
