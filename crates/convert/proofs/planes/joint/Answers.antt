use mathlib.Core.Path.{refl}
use native.Mathlib.Numerals.{add-one}
use Rattle.convert.specs.Code.RawPlanes.{joint_to}
use Rattle.convert.proofs.planes.joint.Goals as goal

pub loop-image-init : goal.loop-image-init
unfolding joint_to
loop-image-init c = refl

pub loop-image-preserved : goal.loop-image-preserved
unfolding joint_to
loop-image-preserved c = rw (add-one, ← c.loop-image.invariant)
