use Rattle.std.proofs.Common.{◌≡◌, ◌≤◌, false, length}
use Rattle.qasm.specs.Bytes.{white}
use Rattle.qasm.specs.Reading.{skip, left}
use Rattle.qasm.proofs.blanks.past_blanks.Given as goal

abbrev pub invariant-loop-rest : goal.invariant-loop-rest
invariant-loop-rest l = (skip false l.text ≡ skip false l.rest) × ((left white l.rest ≡ l.rest) × (length l.rest ≤ length l.text))

abbrev pub decreases-loop-rest : goal.decreases-loop-rest
decreases-loop-rest l = length l.rest
