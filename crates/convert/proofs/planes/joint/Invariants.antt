use Rattle.std.specs.Prelude.{◌≡◌}
use Rattle.convert.specs.Code.RawPlanes.{joint_to}
use Rattle.convert.proofs.planes.joint.Given as goal

abbrev pub invariant-loop-image : goal.invariant-loop-image
invariant-loop-image l = l.word ≡ joint_to l.words l.stride l.at l.images l.image-index
