use mathlib.Core.Path.{refl}
use native.Mathlib.Omega.{arith}
use Prim.Native.Nat.{◌<◌, ◌^◌}
use lib.Bits.{or_lt}
use lib.Count.{ones-le}
use Rattle.convert.proofs.Packed.Within.{union_more}
use Rattle.convert.specs.Code.RawPlanes.{union_to}
use Rattle.convert.proofs.planes.union_of.Goals as goal

pub loop-k-init : goal.loop-k-init
unfolding union_to
loop-k-init c = (omega arith, refl)

pub overflow_add-sum : goal.overflow_add-sum
overflow_add-sum c =
    let ha : c.any_of-any_x.result < 2 ^ 64 = omega arith in
    let hb : c.any_of-any_z.result < 2 ^ 64 = omega arith in
    omega (arith, ones-le 64 _ (or_lt 64 _ _ ha hb))

pub loop-k-preserved : goal.loop-k-preserved
loop-k-preserved c =
    let ha : c.any_of-any_x.result < 2 ^ 64 = omega arith in
    let hb : c.any_of-any_z.result < 2 ^ 64 = omega arith in
    (omega (arith, ones-le 64 _ (or_lt 64 _ _ ha hb)), rw (union_more, ← c.loop-k.invariant.1, ← c.any_of-any_x.ensures, ← c.any_of-any_z.ensures))
