use native.Mathlib.Omega.{arith}
use Prim.Native.Nat.{◌+◌}
use lib.ListN.{get_or}
use Rattle.convert.proofs.Packed.Words.{row_ends}
use Rattle.convert.proofs.planes.Planes.weigh.Goals as goal

pub weight_of-requires : goal.weight_of-requires
weight_of-requires c =
    let p = c.args.self.now in
    let s = p.width + p.width in
    (λ i h. omega (arith, p.room, row_ends s (get_or c.args.images.now i 0) (p.qubits + p.qubits) (c.requires i h)), omega (arith, p.few, p.parts))
