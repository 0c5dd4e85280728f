-- `Walk::run_path` meets its contract: resuming the path from the words gives what is asked, at each turn.
use mathlib.Core.Path.{refl, ap}
use native.Mathlib.Omega.{arith}
use Rattle.arena.specs.Code.Results.{out_of, top_of, stepped}
use Rattle.arena.proofs.Made.{handed_on}
use Rattle.arena.proofs.Steps.Runs.{going_begin, going_end, at_top, topped, some_left, going-refused, going_on, stepped_at}
use Rattle.arena.proofs.materialize.Walk.run_path.Goals as goal

pub loop-top-init : goal.loop-top-init
loop-top-init c = (λ g. going_begin g refl, (refl, refl, refl, refl, refl, refl, refl))

pub step_at-requires : goal.step_at-requires
step_at-requires c =
    rw (c.loop-top.invariant.1.0, c.loop-top.invariant.1.2) (topped c.requires (c.loop-top.invariant.0 c.requires) (at_top c.in-Some.is))

pub returns-in_err-top-clause-says : goal.returns-in_err-top-clause-says
returns-in_err-top-clause-says c =
    λ g. let at = at_top c.in-Some.is in
    let v = c.loop-top.invariant.0 g in
    rw (handed_on c.from_residual.ensures) (going-refused g v at (stepped_at c.loop-top.invariant.1.0 c.loop-top.invariant.1.2 c.step_at.ensures.says (topped g v at))
    (ap (λ q. out_of (stepped q c.step_at.new.self.left)) c.in_err-top.was))

pub overflow_sub-budget : goal.overflow_sub-budget
overflow_sub-budget c = some_left c.requires (c.loop-top.invariant.0 c.requires) (at_top c.in-Some.is)

pub loop-top-smaller : goal.loop-top-smaller
loop-top-smaller c = omega (arith, some_left c.requires (c.loop-top.invariant.0 c.requires) (at_top c.in-Some.is))

pub loop-top-preserved : goal.loop-top-preserved
loop-top-preserved c = (
  λ g. let at = at_top c.in-Some.is in
      let v = c.loop-top.invariant.0 g in
      going_on g v at (stepped_at c.loop-top.invariant.1.0 c.loop-top.invariant.1.2 c.step_at.ensures.says (topped g v at))
      (ap (λ q. out_of (stepped q c.step_at.new.self.left)) c.in_ok-top.was) c.step_at.ensures.lent.5 c.step_at.ensures.lent.6,
  search,
)

pub returns-clause-says : goal.returns-clause-says
returns-clause-says c = λ g. going_end g (c.loop-top.invariant.0 g) (ap top_of c.in_default.is)
