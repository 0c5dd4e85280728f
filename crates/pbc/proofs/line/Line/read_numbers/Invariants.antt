use Rattle.std.proofs.Common.{length, ◌≤◌}
use Rattle.pbc.proofs.line.Line.read_numbers.Given as goal

abbrev pub invariant-loop-number : goal.invariant-loop-number
invariant-loop-number l = length l.rest ≤ length l.text

abbrev pub decreases-loop-number : goal.decreases-loop-number
decreases-loop-number l = length l.rest
