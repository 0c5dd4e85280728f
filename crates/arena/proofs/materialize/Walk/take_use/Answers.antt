-- `Walk::take_use` meets its contract: a value moved or copied, or one of two refusals.
use native.Mathlib.Omega.{arith}
use Rattle.arena.proofs.Made.{handed_on}
use Rattle.arena.proofs.Steps.Scratch.{links_use}
use Rattle.arena.proofs.Steps.Moves.{word_room, use_some, took_move, took-17, took-18, source, took_copy}
use Rattle.arena.proofs.materialize.Walk.take_use.Goals as goal

pub named_value-v-requires : goal.named_value-v-requires
named_value-v-requires c = omega (arith, word_room c.requires)

pub drop_use-u-requires : goal.drop_use-u-requires
drop_use-u-requires c = (omega (arith, word_room c.requires), use_some c.requires)

pub returns-then-u-eq1-clause-says : goal.returns-then-u-eq1-clause-says
returns-then-u-eq1-clause-says c = λ g. took_move g c.drop_use-u.ensures.0 c.named_value-v.ensures c.if-u-eq1.true c.drop_use-u.ensures.1

pub returns-then-u-eq1-clause-links_kept : goal.returns-then-u-eq1-clause-links_kept
returns-then-u-eq1-clause-links_kept c = links_use _ _ c.drop_use-u.ensures.1

pub charged-requires : goal.charged-requires
charged-requires c = omega (arith, c.requires.rep.work_is, c.requires.paid)

pub returns-in_err-work-clause-says : goal.returns-in_err-work-clause-says
returns-in_err-work-clause-says c =
    λ g. rw (handed_on c.from_residual.ensures, c.in_err-work.ensures.1) (took-17 g c.drop_use-u.ensures.0 c.named_value-v.ensures c.if-u-eq1.false c.in_err-work.ensures.0)

pub returns-in_err-work-clause-links_kept : goal.returns-in_err-work-clause-links_kept
returns-in_err-work-clause-links_kept c = links_use _ _ c.drop_use-u.ensures.1

pub returns-then-left-count-clause-says : goal.returns-then-left-count-clause-says
returns-then-left-count-clause-says c =
    λ g. took-18 g c.drop_use-u.ensures.0 c.named_value-v.ensures c.if-u-eq1.false c.in_ok-work.ensures.0 c.if-left-count.true

pub returns-then-left-count-clause-links_kept : goal.returns-then-left-count-clause-links_kept
returns-then-left-count-clause-links_kept c = links_use _ _ c.drop_use-u.ensures.1

pub copy-t-requires : goal.copy-t-requires
copy-t-requires c = source c.requires c.drop_use-u.ensures.0 c.named_value-v.ensures c.if-left-count.false

pub returns-clause-says : goal.returns-clause-says
returns-clause-says c =
    λ g. rw c.in_ok-work.ensures.1 (took_copy g c.drop_use-u.ensures.0 c.named_value-v.ensures c.if-u-eq1.false c.in_ok-work.ensures.0 c.if-left-count.false c.drop_use-u.ensures.1
    (c.copy-t.ensures (source g c.drop_use-u.ensures.0 c.named_value-v.ensures c.if-left-count.false)))

pub returns-clause-links_kept : goal.returns-clause-links_kept
returns-clause-links_kept c = links_use _ _ c.drop_use-u.ensures.1
