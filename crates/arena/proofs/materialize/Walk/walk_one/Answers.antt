-- `Walk::walk_one` meets its contract: the use counted, the walk begun, the root shown, or a refusal on the way.
use mathlib.Core.Path.{ap}
use Rattle.arena.specs.Code.Results.{out_of, left_after}
use Rattle.arena.proofs.Made.{handed_on}
use Rattle.arena.proofs.Steps.Roots.{add_fits, rootable, walk_refused, rooted, walk_shown, shown_at}
use Rattle.arena.proofs.materialize.Walk.walk_one.Goals as goal

pub add_use-requires : goal.add_use-requires
add_use-requires c = add_fits c.requires (c.fill.ensures.after (λ y e. e))

pub begin-requires : goal.begin-requires
begin-requires c = rootable c.requires (c.fill.ensures.after (λ y e. e)) c.add_use.ensures

pub show_root-requires : goal.show_root-requires
show_root-requires c =
    rw (c.begin.ensures.lent.0, c.begin.ensures.lent.1, c.begin.ensures.lent.2) (rooted c.requires (c.fill.ensures.after (λ y e. e)) c.add_use.ensures c.args.self.now.pool.now
    (c.begin.ensures.says (rootable c.requires (c.fill.ensures.after (λ y e. e)) c.add_use.ensures)) (ap (λ q. out_of (left_after q c.begin.new.self.left)) c.in_ok-begin.was))

pub returns-in_err-begin-clause-says : goal.returns-in_err-begin-clause-says
returns-in_err-begin-clause-says c = λ g. rw (handed_on c.from_residual.ensures) (walk_refused g (c.fill.ensures.after (λ y e. e)) c.add_use.ensures c.args.self.now.pool.now
    (c.begin.ensures.says (rootable g (c.fill.ensures.after (λ y e. e)) c.add_use.ensures)) (ap (λ q. out_of (left_after q c.begin.new.self.left)) c.in_err-begin.was))

pub returns-clause-says : goal.returns-clause-says
returns-clause-says c =
    λ g. let begun = c.begin.ensures.says (rootable g (c.fill.ensures.after (λ y e. e)) c.add_use.ensures) in
    let yes = ap (λ q. out_of (left_after q c.begin.new.self.left)) c.in_ok-begin.was in
    walk_shown g (c.fill.ensures.after (λ y e. e)) c.add_use.ensures c.args.self.now.pool.now begun yes
    (shown_at c.begin.ensures.lent.0 c.begin.ensures.lent.1 c.begin.ensures.lent.2 c.show_root.ensures.says (rooted g (c.fill.ensures.after (λ y e. e)) c.add_use.ensures c.args.self.now.pool.now begun yes))
