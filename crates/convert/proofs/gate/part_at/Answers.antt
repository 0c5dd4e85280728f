use Rattle.convert.proofs.Counts.Parts.{part_wide}
use Rattle.convert.proofs.gate.part_at.Goals as goal

pub returns-clause-kind : goal.returns-clause-kind
returns-clause-kind g c = rw (c.if-this-ne0.false, part_wide c.args.gates.now c.args.p) c.gate_at-2.ensures.kind

pub returns-clause-operands : goal.returns-clause-operands
returns-clause-operands g c = rw (c.if-this-ne0.false, part_wide c.args.gates.now c.args.p) c.gate_at-2.ensures.operands
