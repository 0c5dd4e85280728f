-- What no record touched was as at the start, and the rest is restored.
use Rattle.std.specs.Prelude.{◌≡◌, ◌-◌}
use Rattle.convert.proofs.Packed.Since.{Mended}
use Rattle.convert.proofs.planes.Planes.restore_since.Given as goal

abbrev pub invariant-loop-i : goal.invariant-loop-i
invariant-loop-i l =
    (l.self.qubits ≡ l.initial.self.qubits) × (l.self.width ≡ l.initial.self.width) × (l.self.words.ghost_name ≡ l.initial.self.words.ghost_name)
    × Mended l.initial.self.qubits l.initial.self.width l.initial.self.words.now l.gates l.from (l.i - l.from) l.self.words.now
