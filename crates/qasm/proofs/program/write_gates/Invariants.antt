use Rattle.std.proofs.Common.{◌≡◌, ◌-◌, ℕ, List, length, drop}
use Rattle.qasm.specs.Text.{Record}
use Rattle.qasm.specs.Reading.{gates_from, gates as all_gates}
use Rattle.qasm.proofs.Passes.{Written}
use Rattle.qasm.proofs.program.write_gates.Given as goal

abbrev pub invariant-loop-i : goal.invariant-loop-i
invariant-loop-i l = (f : ℕ) (gs : List Record) → gates_from f l.names.q.now l.names.c.now l.text ≡ all_gates gs → length gs ≡ l.count
    → (gates_from (f - l.i) l.names.q.now l.names.c.now l.rest ≡ all_gates (drop l.i gs)) × Written gs l.i l.initial.gates l.gates
