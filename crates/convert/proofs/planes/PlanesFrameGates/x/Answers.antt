use mathlib.Core.Path.{refl}
use Rattle.convert.specs.Code.RawPlanes.{plane_step, plane_run}
use Rattle.convert.proofs.planes.PlanesFrameGates.x.Goals as goal

pub returns : goal.returns
unfolding plane_run plane_step
returns c = (refl, (refl, refl, refl))
