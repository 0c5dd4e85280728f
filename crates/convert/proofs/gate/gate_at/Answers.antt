use native.Mathlib.Omega.{arith}
use Prim.Native.Nat.{ℕ, ◌<◌}
use mathlib.Core.Path.{ap, ◌∙◌}
use Rattle.convert.specs.Records.{kind_of}
use Rattle.convert.proofs.GateKinds.Chunks.{word_of_record, kind_of_record}
use Rattle.convert.proofs.gate.gate_at.Goals as goal

pub returns-clause-kind : goal.returns-clause-kind
returns-clause-kind c = c.of.ensures ∙ ap kind_of (kind_of_record c.args.gates.now c.as_chunks.result.0.now c.args.i c.as_chunks.ensures.front c.requires)

pub returns-clause-operands : goal.returns-clause-operands
returns-clause-operands c =
    let word = λ (j : ℕ) (lt : j < 4). word_of_record c.args.gates.now c.as_chunks.result.0.now c.args.i j c.as_chunks.ensures.front c.requires lt in
    (word 1 (omega arith), word 2 (omega arith), word 3 (omega arith))
