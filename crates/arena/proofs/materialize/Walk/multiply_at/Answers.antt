-- `Walk::multiply_at` meets its contract: the charge, then the product.
use mathlib.Core.Path.{refl}
use native.Mathlib.Omega.{arith}
use Rattle.arena.proofs.Made.{handed_on}
use Rattle.arena.proofs.Steps.Scratch.{links_same, links_value}
use Rattle.arena.proofs.Steps.Products.{work_fits, small₁, small₂, small₃, sum_few, words_long, dear, operands, head_low, count_fits, few₃, made}
use Rattle.arena.proofs.materialize.Walk.multiply_at.Goals as goal

pub charged-requires : goal.charged-requires
charged-requires c = work_fits c.requires

pub returns-in_err-work-clause-says : goal.returns-in_err-work-clause-says
returns-in_err-work-clause-says c = λ g. rw (handed_on c.from_residual.ensures, c.in_err-work.ensures.1) (dear g c.min.ensures c.in_err-work.ensures.0)

pub returns-in_err-work-clause-links_kept : goal.returns-in_err-work-clause-links_kept
returns-in_err-work-clause-links_kept c = links_same refl

pub multiply-m-requires : goal.multiply-m-requires
multiply-m-requires c = operands c.requires

pub overflow_add-v : goal.overflow_add-v
overflow_add-v c = record { fits = omega (arith, small₁ c.requires, small₂ c.requires) }

pub overflow_add-v-2 : goal.overflow_add-v-2
overflow_add-v-2 c =
    let multiply = c.multiply-m in
    let pre = c.requires in
    record { fits = omega (arith, small₃ pre (multiply.ensures (operands pre))) }

pub set_value-requires : goal.set_value-requires
set_value-requires c =
    let multiply = c.multiply-m in
    let pre = c.requires in
    (head_low pre (multiply.ensures (operands pre)), few₃ pre (multiply.ensures (operands pre)), omega arith, omega (arith, words_long pre))

pub overflow_add-self : goal.overflow_add-self
overflow_add-self c = record { fits = omega (arith, sum_few c.requires) }

pub overflow_add-self-2 : goal.overflow_add-self-2
overflow_add-self-2 c = record { fits = omega (arith, sum_few c.requires) }

pub overflow_sub-self : goal.overflow_sub-self
overflow_sub-self c =
    let multiply = c.multiply-m in
    let pre = c.requires in
    count_fits pre (multiply.ensures (operands pre))

pub returns-clause-says : goal.returns-clause-says
returns-clause-says c = λ g. rw c.in_ok-work.ensures.1 (made g (c.multiply-m.ensures (operands g)) c.min.ensures c.in_ok-work.ensures.0 refl c.set_value.ensures)

pub returns-clause-links_kept : goal.returns-clause-links_kept
returns-clause-links_kept c = links_value _ _ c.set_value.ensures
