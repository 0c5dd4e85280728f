-- `Walk::product_step` meets its contract: a child comes first, or the product is made.
use native.Mathlib.Omega.{arith}
use Rattle.arena.proofs.Made.{handed_on}
use Rattle.arena.proofs.Steps.Path.{words_room, left_room, right_room, link_low, push_left, push_right, combining, combined_step, went_up, went-no}
use Rattle.arena.proofs.materialize.Walk.product_step.Goals as goal

pub value_of-ml-requires : goal.value_of-ml-requires
value_of-ml-requires c = omega (arith, left_room c.requires)

pub overflow_add-i : goal.overflow_add-i
overflow_add-i c = record { fits = omega (arith, link_low c.requires) }

pub set_link-requires : goal.set_link-requires
set_link-requires c = (link_low c.requires, left_room c.requires)

pub returns-then-ml-eq0-clause-says : goal.returns-then-ml-eq0-clause-says
returns-then-ml-eq0-clause-says c = λ g. push_left g c.value_of-ml.ensures c.if-ml-eq0.true c.set_link.ensures

pub value_of-mr-requires : goal.value_of-mr-requires
value_of-mr-requires c = omega (arith, right_room c.requires)

pub overflow_add-i-then-mr-eq0 : goal.overflow_add-i-then-mr-eq0
overflow_add-i-then-mr-eq0 c = record { fits = omega (arith, link_low c.requires) }

pub set_link-requires-then-mr-eq0 : goal.set_link-requires-then-mr-eq0
set_link-requires-then-mr-eq0 c = (link_low c.requires, right_room c.requires)

pub returns-then-mr-eq0-clause-says : goal.returns-then-mr-eq0-clause-says
returns-then-mr-eq0-clause-says c = λ g. push_right g c.value_of-ml.ensures c.if-ml-eq0.false c.value_of-mr.ensures c.if-mr-eq0.true c.set_link-then-mr-eq0.ensures

pub combine_at-requires : goal.combine_at-requires
combine_at-requires c = combining c.requires c.value_of-ml.ensures c.if-ml-eq0.false c.value_of-mr.ensures c.if-mr-eq0.false

pub link_of-requires : goal.link_of-requires
link_of-requires c = omega (arith, words_room c.requires.top, c.combine_at.ensures.lent)

pub returns-in_err-combine_at-clause-says : goal.returns-in_err-combine_at-clause-says
returns-in_err-combine_at-clause-says c =
    λ g. let at = combining g c.value_of-ml.ensures c.if-ml-eq0.false c.value_of-mr.ensures c.if-mr-eq0.false in
    rw (handed_on c.from_residual.ensures) (went-no _ _ c.in_err-combine_at.was
    (combined_step g c.value_of-ml.ensures c.if-ml-eq0.false c.value_of-mr.ensures c.if-mr-eq0.false _ c.combine_at.ensures.links_kept (c.combine_at.ensures.says at)))

pub returns-clause-says : goal.returns-clause-says
returns-clause-says c =
    λ g. let at = combining g c.value_of-ml.ensures c.if-ml-eq0.false c.value_of-mr.ensures c.if-mr-eq0.false in
    went_up _ c.link_of.ensures c.in_ok-combine_at.was
    (combined_step g c.value_of-ml.ensures c.if-ml-eq0.false c.value_of-mr.ensures c.if-mr-eq0.false _ c.combine_at.ensures.links_kept (c.combine_at.ensures.says at))
