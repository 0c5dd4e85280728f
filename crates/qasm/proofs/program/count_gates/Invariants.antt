use Rattle.std.proofs.Common.{◌≡◌, ◌≤◌, ◌+◌, ◌-◌, ℕ, length}
use Rattle.qasm.specs.Reading.{gates_from}
use Rattle.qasm.specs.Code.Rest.{tallied}
use Rattle.qasm.proofs.Passes.{shifted}
use Rattle.qasm.proofs.program.count_gates.Given as goal

abbrev pub invariant-gates : goal.invariant-gates
invariant-gates l = (l.count + length l.rest ≤ length l.text)
    × ((f : ℕ) → length l.text ≤ f → tallied (gates_from f l.names.q.now l.names.c.now l.text) ≡ shifted l.count (tallied (gates_from (f - l.count) l.names.q.now l.names.c.now l.rest)))

abbrev pub decreases-gates : goal.decreases-gates
decreases-gates l = length l.rest
