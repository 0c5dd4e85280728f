use native.Mathlib.Omega.{arith}
use mathlib.Core.Path.{refl}
use Prim.Native.Nat.{◌+◌}
use Rattle.pauli.specs.Gates.{gate_cz}
use Rattle.convert.specs.Code.Images.{stays_on}
use Rattle.convert.proofs.Buffers.Frame.{two_ran, cz_step, mul_count, mul_small}
use Rattle.convert.proofs.frame.ImagesFrameGates.cz.Goals as goal

pub multiply-requires-2-clause-room : goal.multiply-requires-2-clause-room
multiply-requires-2-clause-room c =
    let r = c.requires in
    let e = c.multiply.ensures in
    let n = c.args.self.now.qubits in
    let s = mul_small n r.small (omega (arith, r.few)) (omega arith) e.put in
    let k = mul_count n r.small (omega (arith, r.few)) (omega arith) e.put in
    (omega (arith, k, r.few), omega (arith, k, r.room, e.stays.3), s (n + c.args.c) (omega (arith, r.valid.0)))

pub returns : goal.returns
returns c =
    let a = c.args in (
      two_ran (gate_cz a.c a.t) c.requires refl (cz_step a.self.now.qubits a.c a.t) c.multiply.ensures.put c.multiply-2.ensures.put,
      stays_on a.self.now c.multiply.new.self c.multiply-2.new.self c.multiply.ensures.stays c.multiply-2.ensures.stays,
    )
