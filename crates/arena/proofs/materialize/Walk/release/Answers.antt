-- `Walk::release` meets its contract: the last use gives the records back.
use mathlib.Core.Path.{refl}
use native.Mathlib.Omega.{arith}
use Rattle.arena.proofs.Steps.Roots.{release-some, release-more, holding, release-last}
use Rattle.arena.proofs.materialize.Walk.release.Goals as goal

pub drop_use-u-requires : goal.drop_use-u-requires
drop_use-u-requires c = (omega (arith, c.requires.rep.scratch.long, c.requires.low), release-some c.requires refl)

pub returns-then-u-ne1-clause-says : goal.returns-then-u-ne1-clause-says
returns-then-u-ne1-clause-says c = λ g. release-more g c.drop_use-u.ensures.0 c.if-u-ne1.true c.drop_use-u.ensures.1

pub give_back-back-requires : goal.give_back-back-requires
give_back-back-requires c = holding c.requires c.drop_use-u.ensures.0

pub returns-clause-says : goal.returns-clause-says
returns-clause-says c =
    let give-back = c.give_back-back in
    let if1 = c.if-u-ne1 in
    let drop-use = c.drop_use-u in
    λ g. release-last g drop-use.ensures.0 if1.false drop-use.ensures.1 (give-back.ensures (holding g drop-use.ensures.0))
