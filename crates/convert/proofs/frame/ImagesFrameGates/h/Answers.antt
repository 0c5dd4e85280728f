use mathlib.Core.Path.{refl, sym, ◌∙◌}
use Prim.Native.Nat.{◌+◌}
use native.Mathlib.Omega.{arith}
use Rattle.std.proofs.lemmas.List.Edits.{swap_is}
use Rattle.convert.proofs.Buffers.Frame.{h_ran}
use Rattle.convert.proofs.frame.ImagesFrameGates.h.Goals as goal

pub returns : goal.returns
returns c =
    let s = c.args.self.now in
    let r = c.requires in
    let e = c.swap.ensures.after ∙ sym (swap_is s.frame.now c.args.q (s.qubits + c.args.q) 0 (omega (arith, r.valid.0, r.places)) (omega (arith, r.valid.0, r.places))) in
    (rw e (h_ran r), (refl, refl, refl, refl, c.swap.ensures.len))
