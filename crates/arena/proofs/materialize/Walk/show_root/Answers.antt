-- `Walk::show_root` meets its contract: the root is evaluated, and its factors are charged.
use mathlib.Core.Path.{ap}
use native.Mathlib.Omega.{arith}
use Rattle.arena.specs.Code.Results.{out_of, left_after}
use Rattle.arena.proofs.Made.{handed_on}
use Rattle.arena.proofs.Steps.Roots.{root-refused, work_fits, too_high, root_shown}
use Rattle.arena.proofs.materialize.Walk.show_root.Goals as goal

pub eval_root-requires : goal.eval_root-requires
eval_root-requires c = c.requires

pub named_value-v-requires : goal.named_value-v-requires
named_value-v-requires c = omega (arith, c.eval_root.ensures.lent.5, c.requires.at.rep.scratch.long, c.requires.low)

pub charged-requires : goal.charged-requires
charged-requires c =
    rw c.eval_root.ensures.lent.2 (work_fits c.args.w c.requires (c.eval_root.ensures.says c.requires) (ap (λ q. out_of (left_after q c.eval_root.new.self.left)) c.in_ok-eval_root.was))

pub returns-in_err-work-clause-says : goal.returns-in_err-work-clause-says
returns-in_err-work-clause-says c = λ g. rw (handed_on c.from_residual-in_err-work.ensures, c.in_err-work.ensures.1) (too_high c.args.w g (c.eval_root.ensures.says g) (ap (λ q. out_of (left_after q c.eval_root.new.self.left)) c.in_ok-eval_root.was)
    c.named_value-v.ensures (omega (arith, c.eval_root.ensures.lent.2, c.in_err-work.ensures.0)))

pub returns-in_err-eval_root-clause-says : goal.returns-in_err-eval_root-clause-says
returns-in_err-eval_root-clause-says c = λ g. rw (handed_on c.from_residual.ensures) (root-refused c.args.w g (c.eval_root.ensures.says g)
    (ap (λ q. out_of (left_after q c.eval_root.new.self.left)) c.in_err-eval_root.was))

pub returns-clause-says : goal.returns-clause-says
returns-clause-says c = λ g. rw c.in_ok-work.ensures.1 (root_shown c.args.w g (c.eval_root.ensures.says g) (ap (λ q. out_of (left_after q c.eval_root.new.self.left)) c.in_ok-eval_root.was)
    c.named_value-v.ensures (omega (arith, c.eval_root.ensures.lent.2, c.in_ok-work.ensures.0)))
