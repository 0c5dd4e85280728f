use mathlib.Core.Path.{◌≡◌, refl, ◌∙◌}
use native.Mathlib.Omega.{arith}
use native.Mathlib.Numerals.{add-one}
use Rattle.convert.specs.Code.RawPlanes.{mark_to, plane_reset}
use Rattle.convert.proofs.planes.reset_words.Goals as goal

pub clear-requires : goal.clear-requires
clear-requires c = omega (arith, c.requires)

pub loop-q-init : goal.loop-q-init
unfolding mark_to
loop-q-init c = (refl, refl)

pub mark_words-requires : goal.mark_words-requires
mark_words-requires c = omega (arith, c.clear.auto, c.requires)

pub loop-q-preserved : goal.loop-q-preserved
unfolding mark_to
loop-q-preserved c = (omega (arith, c.mark_words.auto), c.mark_words.ensures ∙ rw (add-one, ← c.loop-q.invariant.1))

pub returns : goal.returns
unfolding plane_reset
returns c =
    let end : c.loop-q.q ≡ c.args.n = omega arith in
    (rw end at c.loop-q.invariant.1) ∙ rw c.clear.ensures
