-- What the code answers, as the reader's definitions have it: what was read, and what is left of the text.
use Rattle.std.specs.Prelude.{Bool, ◌&&◌, not, leb, eqb, true, false, cond, List, [], ◌∷◌, ℕ, length, Option, Some, None, Result, Ok, Err}
use Rattle.std.specs.Borrow.{Bor}
use Rattle.qasm.specs.Bytes.{same_bytes}
use Rattle.qasm.specs.Names.{Named, gate_names}
use Rattle.qasm.specs.Text.{Record, record_of}
use Rattle.qasm.specs.Reading.{Try, got, failed, Done, done, Register, register, Gates, gates, bad, operands_by}
use Rattle.qasm.specs.declared.gate.Gate.{Gate}
use Rattle.qasm.specs.declared.statement.Register.{Register as CodeRegister}

abbrev pub left_of : Option (Bor (List ℕ)) → Try Done
left_of None = failed
left_of (Some r) = got done r.now

abbrev pub read_of : Option (ℕ × Bor (List ℕ)) → Try ℕ
read_of None = failed
read_of (Some p) = got p.0 p.1.now

abbrev pub word_of : Option (Bor (List ℕ) × Bor (List ℕ)) → Try (List ℕ)
word_of None = failed
word_of (Some p) = got p.0.now p.1.now

abbrev pub register_in : CodeRegister → Register
register_in r = register r.name.now r.size

abbrev pub register_of : Option (CodeRegister × Bor (List ℕ)) → Try Register
register_of None = failed
register_of (Some p) = got (register_in p.0) p.1.now

abbrev pub record_in : Gate → Record
record_in g = record_of g.kind g.a g.b g.c

abbrev pub gate_of : Option (Gate × Bor (List ℕ)) → Try Record
gate_of None = failed
gate_of (Some p) = got (record_in p.0) p.1.now

-- the kind and the qubits of the first of this name
abbrev pub find_name : List Named → List ℕ → Option (ℕ × ℕ)
find_name [] w = None
find_name (g ∷ gs) w = cond (same_bytes w g.name) (Some (g.kind, g.qubits)) (find_name gs w)

unfoldable pub gate_found : List ℕ → Option (ℕ × ℕ)
gate_found w = find_name gate_names w

-- the operands of the gate that was found
abbrev pub found : List ℕ → List ℕ → Option (ℕ × ℕ) → Try Record
found q text None = failed
found q text (Some g) = operands_by g.1 q g.0 text

-- how many gates, or how many bytes are left at the first statement outside
abbrev pub tally_of : Result ℕ (Bor (List ℕ)) → Result ℕ ℕ
tally_of (Ok n) = Ok n
tally_of (Err r) = Err (length r.now)

abbrev pub tallied : Gates → Result ℕ ℕ
tallied (gates gs) = Ok (length gs)
tallied (bad k) = Err k

-- one to ten, without leading zeros
abbrev pub plain_digits : List ℕ → Bool
plain_digits [] = false
plain_digits (d ∷ []) = true
plain_digits (d ∷ e ∷ r) = not (eqb d 48) && leb (length (d ∷ e ∷ r)) 10
