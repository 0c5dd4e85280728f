use mathlib.Core.Path.{sym}
use Rattle.convert.proofs.Counts.Parts.{next_wide}
use Rattle.convert.proofs.gate.position_after.Goals as goal

pub returns : goal.returns
returns g c = rw c.if-this-ne0.false (sym (next_wide c.args.gates.now c.args.p))
