use native.Mathlib.Numerals.{add-one}
use Rattle.convert.specs.Code.RawPlanes.{plane_step, plane_run}
use Rattle.convert.proofs.planes.PlanesFrameGates.sdg.Goals as goal

pub returns : goal.returns
unfolding plane_run plane_step
returns c = let e = c.xor_into.ensures in (rw add-one at e.after, (e.lent, e.same.0, e.same.1))
