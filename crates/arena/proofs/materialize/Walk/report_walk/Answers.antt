-- `Walk::report_walk` meets its contract: each axis visited by the one that weighs, or a refusal on the way.
use mathlib.Core.Path.{refl, ap, ◌∙◌}
use Rattle.arena.specs.Code.Results.{out_of}
use Rattle.arena.specs.Code.Roots.{axes_of}
use Rattle.arena.proofs.Made.{handed_on}
use Rattle.arena.proofs.Steps.Saying.{said-fine, said-refused}
use Rattle.arena.proofs.Steps.Largest.{weights_in, largest_all, none-reported, all_reported}
use Rattle.arena.proofs.materialize.Walk.report_walk.Goals as goal

pub visit_axes-requires : goal.visit_axes-requires
visit_axes-requires c = (c.requires.0, c.requires.1, c.requires.2, c.requires.3, c.requires.2)

pub returns-in_err-work : goal.returns-in_err-work
returns-in_err-work c = handed_on c.from_residual.ensures
    ∙ none-reported c.args.zeros c.args.self.now.limit _ c.args.header.qubits c.args.header.nodes c.args.self.now.nodes.now (axes_of c.args.header c.args.operations.now) (said-refused c.visit_axes.ensures (ap out_of c.in_err-work.was))

pub returns : goal.returns
returns c =
    let r = said-fine c.visit_axes.ensures (ap out_of c.in_ok-work.was) in
    all_reported c.args.zeros c.args.self.now.limit _ c.args.header.qubits c.args.header.nodes c.args.self.now.nodes.now (axes_of c.args.header c.args.operations.now) r.1
    (ap weights_in r.2.visitor_is ∙ largest_all c.args.header c.args.operations.now _ r.0.shown refl refl refl refl r.2.many) r.2.work_is
