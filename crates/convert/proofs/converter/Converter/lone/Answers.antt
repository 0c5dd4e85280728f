use mathlib.Core.Path.{refl, ◌∙◌}
use mathlib.Core.List.{[], ◌∷◌}
use Prim.Native.Nat.{◌+◌}
use Rattle.arena.proofs.Overlay.{operation_written_lem}
use Rattle.convert.proofs.Buffers.Seven.{op_put}
use Rattle.convert.proofs.converter.Converter.lone.Goals as goal

pub returns-clause-wrote : goal.returns-clause-wrote
returns-clause-wrote c =
    let a = c.args in
    let s = c.args.self.now in
    let vs = a.first ∷ a.axis ∷ a.measurement ∷ a.target ∷ a.gate ∷ [] in
    op_put s.used.nodes s.nodes.now s.used.operations s.operations.now vs (s.used.operations + 1) _ _ _
    (refl, c.put_operation.ensures ∙ operation_written_lem s.used.operations vs s.operations.now c.requires.room.1) (refl, refl)
