use Rattle.std.specs.Prelude.{◌≡◌, ◌≤◌, ◌*◌}
use Rattle.convert.specs.Code.RawPlanes.{union_to}
use Rattle.convert.proofs.planes.union_of.Given as goal

abbrev pub invariant-loop-k : goal.invariant-loop-k
invariant-loop-k l = (l.sum ≤ 64 * l.k) × (l.sum ≡ union_to l.words l.l l.one l.two l.three l.k)
