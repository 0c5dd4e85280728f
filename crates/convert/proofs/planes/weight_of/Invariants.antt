use Rattle.std.specs.Prelude.{◌≡◌, ◌≤◌, ◌*◌}
use Rattle.convert.specs.Code.RawPlanes.{product_to}
use Rattle.convert.proofs.planes.weight_of.Given as goal

abbrev pub invariant-loop-k : goal.invariant-loop-k
invariant-loop-k l = (l.sum ≤ 64 * l.k) × (l.sum ≡ product_to l.words l.l l.images l.k)
