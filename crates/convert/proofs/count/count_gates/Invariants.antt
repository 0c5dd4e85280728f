use Rattle.std.specs.Prelude.{◌≡◌, ◌-◌}
use denote.Param.{number}
use Rattle.convert.specs.contracts.count.count_gates.{NARROW-type}
use Rattle.convert.specs.Records.{AtMost}
use Rattle.convert.specs.Code.Raw.{InParts}
use Rattle.convert.specs.Code.Counting.{CountAt}
use Rattle.convert.proofs.count.count_gates.Given as goal

abbrev pub invariant-loop-p : goal.invariant-loop-p
invariant-loop-p g l =
    InParts (NARROW-type (number g.row.NARROW)) l.gates l.p × (l.planes.qubits ≡ l.initial.planes.qubits) × (l.planes.words.ghost_name ≡ l.initial.planes.words.ghost_name)
    × CountAt l.initial.planes.qubits (AtMost l.most) (NARROW-type (number g.row.NARROW)) l.gates l.initial.planes.words.now l.planes.words.now l.k l.p

abbrev pub decreases-loop-p : goal.decreases-loop-p
decreases-loop-p g l = l.end - l.p
