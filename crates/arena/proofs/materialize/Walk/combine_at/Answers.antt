-- `Walk::combine_at` meets its contract: two uses taken, and their product.
use mathlib.Core.Path.{ap, ◌∙◌}
use Rattle.arena.specs.Code.Results.{out_of, with_left}
use Rattle.arena.proofs.Made.{handed_on}
use Rattle.arena.proofs.Steps.Products.{first, no-first, second, no_second, multiplying, combined, taken_at, multiplied_at}
use Rattle.arena.proofs.materialize.Walk.combine_at.Goals as goal

pub take_use-requires : goal.take_use-requires
take_use-requires c = first c.requires

pub take_use-requires-2 : goal.take_use-requires-2
take_use-requires-2 c =
    let g = c.requires in
    rw c.take_use.ensures.lent.2 (second g (c.take_use.ensures.says (first g)) (ap (λ q. out_of (with_left q c.take_use.new.self.left)) c.in_ok-a.was))

pub multiply_at-requires : goal.multiply_at-requires
multiply_at-requires c =
    let g = c.requires in
    let took = c.take_use.ensures.says (first g) in
    let one = ap (λ q. out_of (with_left q c.take_use.new.self.left)) c.in_ok-a.was in
    rw (c.take_use-2.ensures.lent.2 ∙ c.take_use.ensures.lent.2) (multiplying g took one (taken_at c.take_use.ensures.lent.2 c.take_use-2.ensures.says (second g took one))
    (ap (λ q. out_of (with_left q c.take_use-2.new.self.left)) c.in_ok-b.was))

pub returns-in_err-a-clause-says : goal.returns-in_err-a-clause-says
returns-in_err-a-clause-says c = λ g. rw (handed_on c.from_residual.ensures) (no-first g (c.take_use.ensures.says (first g))
    (ap (λ q. out_of (with_left q c.take_use.new.self.left)) c.in_err-a.was))

pub returns-in_err-b-clause-says : goal.returns-in_err-b-clause-says
returns-in_err-b-clause-says c =
    λ g. let took = c.take_use.ensures.says (first g) in
    let one = ap (λ q. out_of (with_left q c.take_use.new.self.left)) c.in_ok-a.was in
    rw (handed_on c.from_residual-in_err-b.ensures) (no_second g took one (taken_at c.take_use.ensures.lent.2 c.take_use-2.ensures.says (second g took one))
    (ap (λ q. out_of (with_left q c.take_use-2.new.self.left)) c.in_err-b.was))

pub returns-clause-says : goal.returns-clause-says
returns-clause-says c =
    λ g. let took = c.take_use.ensures.says (first g) in
    let one = ap (λ q. out_of (with_left q c.take_use.new.self.left)) c.in_ok-a.was in
    let also = taken_at c.take_use.ensures.lent.2 c.take_use-2.ensures.says (second g took one) in
    let two = ap (λ q. out_of (with_left q c.take_use-2.new.self.left)) c.in_ok-b.was in
    combined g took one also two (multiplied_at (c.take_use-2.ensures.lent.2 ∙ c.take_use.ensures.lent.2) c.multiply_at.ensures.says (multiplying g took one also two))
