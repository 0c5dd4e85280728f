-- What `read_qasm` answers, and what it leaves in the slice lent.
use Rattle.std.specs.Prelude.{cond, List, [], ◌∷◌, ◌++◌, ℕ, ◌*◌, ◌/◌, ltb, length, drop, Result, Ok, Err}
use Rattle.qasm.specs.Types.{PbcError, BadText, NoGateRoom}
use Rattle.qasm.specs.Text.{Record}
use Rattle.qasm.specs.Reading.{Read, program, bad_text}
pub use Rattle.qasm.specs.declared.program.Program.{Program}

-- the words of records
abbrev pub words_of : List Record → List ℕ
words_of [] = []
words_of (g ∷ gs) = g.kind ∷ g.a ∷ g.b ∷ g.c ∷ words_of gs

abbrev pub program_of : (count qubits bits : ℕ) → Program
program_of count n m = record { gates = count; qubits = n; cbits = m }

-- 20 with the place; else 21 where the records exceed the room; else their number and both sizes
unfoldable pub answer_of : Read → ℕ → Result Program PbcError
answer_of (bad_text place) room = Err (BadText place)
answer_of (program qubits bits gs) room = cond (ltb (room / 4) (length gs)) (Err NoGateRoom) (Ok (program_of (length gs) qubits bits))

-- the words of the records, then what was there; a refusal leaves all of it
unfoldable pub left_in : Read → List ℕ → List ℕ
left_in (bad_text place) words = words
left_in (program qubits bits gs) words = cond (ltb (length words / 4) (length gs)) words (words_of gs ++ drop (4 * length gs) words)
