-- `Walk::axes_walk` meets its contract: each axis visited by the writer of rows.
use mathlib.Core.Path.{◌≡◌, ap, ◌∙◌}
use Rattle.arena.specs.declared.axes.Rows.{Rows}
use Rattle.std.proofs.Common.{arith}
use Rattle.std.proofs.lemmas.Grind.{common_steps}
use mathlib.Core.List.{map}
use Rattle.arena.specs.Sparse.{dense}
use Rattle.arena.specs.Expansion.{axes_bytes}
use Rattle.arena.proofs.Steps.Visits.{says-map}
use Rattle.arena.proofs.Steps.Rows.{row_fits_in, rows_visited, rows_named, laid_whole}
use Rattle.arena.proofs.materialize.Walk.axes_walk.Goals as goal

pub visit_axes-requires : goal.visit_axes-requires
visit_axes-requires c = (c.requires.0, c.requires.1, c.requires.2, c.requires.3, row_fits_in c.args.header c.args.rows.now c.requires.4)

pub returns : goal.returns
returns c = says-map _ c.visit_axes.ensures (λ r work v.
    let named = ap (λ (u : Rows). u.rows.ghost_name) v.visitor_is ∙ rows_named _ 0 r.shown in
    let made : c.visit_axes.new.visitor.rows.now ≡ axes_bytes (map (dense c.args.header.qubits) r.shown) =
    ap (λ (u : Rows). u.rows.now) v.visitor_is ∙ rows_visited _ 0 r.shown ∙ laid_whole c.args.header.qubits c.args.header.operations r.shown c.args.rows.now v.many c.requires.4
    in
    record { work_is = v.work_is; rows_are = grind (arith, common_steps, named, made) })
