use native.Mathlib.Omega.{arith}
use native.Mathlib.Numerals.{add-one}
use mathlib.Core.Path.{◌∙◌}
use Prim.Native.Nat.{◌+◌}
use Rattle.convert.specs.Code.RawPlanes.{plane_step, plane_run}
use Rattle.convert.proofs.planes.PlanesFrameGates.cz.Goals as goal

pub xor_into-requires : goal.xor_into-requires
xor_into-requires c = record { images = (omega (arith, c.requires), omega (arith, c.requires)) }

pub xor_into-requires-2 : goal.xor_into-requires-2
xor_into-requires-2 c = let e = c.xor_into.ensures.same.0 in record { images = (omega (arith, c.requires, e), omega (arith, c.requires, e)) }

pub returns : goal.returns
unfolding plane_run plane_step
returns c =
    let d = c.xor_into.ensures in
    let e = c.xor_into-2.ensures in
    (e.after ∙ rw (d.same.1, d.after, add-one (c.args.t + c.args.t), add-one (c.args.c + c.args.c)), (e.lent ∙ d.lent, e.same.0 ∙ d.same.0, e.same.1 ∙ d.same.1))
