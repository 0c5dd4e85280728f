-- `Walk::visit_axes` meets its contract: the axes counted, the walk begun, the axes visited, or a refusal on the way.
use mathlib.Core.Path.{ap, ◌∙◌}
use Rattle.arena.specs.Code.Results.{out_of, left_after}
use Rattle.arena.proofs.Made.{handed_on}
use Rattle.arena.proofs.Steps.Weights.{countable, axes_rootable, weighing}
use Rattle.arena.proofs.Steps.Axes.{axes-refused, axes-shown}
use Rattle.arena.proofs.Steps.Visits.{all_visited_at, begun_for}
use Rattle.arena.proofs.materialize.Walk.visit_axes.Goals as goal

pub count_axes-requires : goal.count_axes-requires
count_axes-requires g c = countable c.args.operations.now c.requires.1 c.requires.2 c.requires.3 (c.fill.ensures.after (λ y e. e))

pub begin-requires : goal.begin-requires
begin-requires g c = rw c.requires.0 (axes_rootable c.args.operations.now c.requires.1 c.requires.2 c.requires.3 (c.fill.ensures.after (λ y e. e)) c.count_axes.ensures c.count_axes.auto.s)

pub visit_all-requires : goal.visit_all-requires
visit_all-requires g c = (
  c.begin.ensures.lent.1 ∙ c.requires.0,
  rw (c.begin.ensures.lent.0, c.begin.ensures.lent.2) (weighing c.args.operations.now c.requires.1 c.requires.2 c.requires.3 (c.fill.ensures.after (λ y e. e)) c.count_axes.ensures c.count_axes.auto.s
      c.args.self.now.limit c.args.self.now.pool.now
      (begun_for c.requires.0 c.begin.ensures.says (axes_rootable c.args.operations.now c.requires.1 c.requires.2 c.requires.3 (c.fill.ensures.after (λ y e. e)) c.count_axes.ensures c.count_axes.auto.s))
      (ap (λ q. out_of (left_after q c.begin.new.self.left)) c.in_ok-begin.was)),
  c.requires.4,
)

pub returns-in_err-begin : goal.returns-in_err-begin
returns-in_err-begin g c =
    rw (handed_on c.from_residual.ensures) (axes-refused c.args.operations.now c.requires.1 c.requires.2 c.requires.3 (c.fill.ensures.after (λ y e. e)) c.count_axes.ensures c.count_axes.auto.s c.args.self.now.limit c.args.self.now.pool.now
    (begun_for c.requires.0 c.begin.ensures.says (axes_rootable c.args.operations.now c.requires.1 c.requires.2 c.requires.3 (c.fill.ensures.after (λ y e. e)) c.count_axes.ensures c.count_axes.auto.s))
    (ap (λ q. out_of (left_after q c.begin.new.self.left)) c.in_err-begin.was))

pub returns : goal.returns
returns g c =
    let begun = begun_for c.requires.0 c.begin.ensures.says (axes_rootable c.args.operations.now c.requires.1 c.requires.2 c.requires.3 (c.fill.ensures.after (λ y e. e)) c.count_axes.ensures c.count_axes.auto.s) in
    let yes = ap (λ q. out_of (left_after q c.begin.new.self.left)) c.in_ok-begin.was in
    axes-shown c.args.operations.now c.requires.1 c.requires.2 c.requires.3 (c.fill.ensures.after (λ y e. e)) c.count_axes.ensures c.count_axes.auto.s c.args.self.now.limit c.args.self.now.pool.now begun yes
    (all_visited_at c.begin.ensures.lent.0 c.begin.ensures.lent.2 c.visit_all.ensures.says (weighing c.args.operations.now c.requires.1 c.requires.2 c.requires.3 (c.fill.ensures.after (λ y e. e))
    c.count_axes.ensures c.count_axes.auto.s c.args.self.now.limit c.args.self.now.pool.now begun yes))
