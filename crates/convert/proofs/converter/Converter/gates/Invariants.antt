use Prim.Native.Nat.{◌-◌}
use denote.Param.{number}
use Rattle.convert.specs.contracts.converter.Converter.gates.{NARROW-type}
use Rattle.convert.specs.Code.Writing.{WriteAt}
use Rattle.convert.specs.Code.Converting.{Stays}
use Rattle.convert.proofs.converter.Converter.gates.Given as goal

abbrev pub invariant-loop-p : goal.invariant-loop-p
invariant-loop-p g l =
    Stays l.initial.self l.self
    × WriteAt l.self.qubits l.self.cap (NARROW-type (number g.row.NARROW)) l.initial.self.gates.now l.initial.self.nodes.now l.initial.self.frame.now l.initial.self.operations.now l.initial.self.planes.now
    l.self.used.nodes l.self.nodes.now l.self.frame.now l.self.used.operations l.self.operations.now l.self.planes.now l.self.given l.place l.p

abbrev pub decreases-loop-p : goal.decreases-loop-p
decreases-loop-p g l = l.end - l.p
