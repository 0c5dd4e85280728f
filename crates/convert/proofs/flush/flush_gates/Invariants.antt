use mathlib.Core.Path.{◌≡◌}
use Prim.Native.Nat.{◌-◌}
use lib.ListN.{length}
use Rattle.convert.proofs.Buffers.Flush.{FlushAt}
use Rattle.arena.specs.Limits.{max_qubits}
use denote.Param.{number}
use Rattle.convert.specs.contracts.flush.flush_gates.{NARROW-type}
use Rattle.convert.proofs.flush.flush_gates.Given as goal

abbrev pub invariant-loop-p : goal.invariant-loop-p
invariant-loop-p g l = (length l.nodes ≡ length l.initial.nodes) × (length l.operations ≡ length l.initial.operations) × FlushAt max_qubits (NARROW-type (number g.row.NARROW)) l.gates l.from l.to l.initial.w.nodes l.initial.nodes l.initial.w.operations l.initial.operations l.w.nodes l.nodes l.w.operations l.operations l.p

abbrev pub decreases-loop-p : goal.decreases-loop-p
decreases-loop-p g l = l.to - l.p
