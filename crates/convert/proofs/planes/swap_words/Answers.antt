use mathlib.Core.Path.{refl}
use native.Mathlib.Numerals.{add-one}
use lib.ListN.{length-set}
use Rattle.convert.specs.Code.RawPlanes.{swap_to}
use Rattle.convert.proofs.planes.swap_words.Goals as goal

pub loop-k-init : goal.loop-k-init
unfolding swap_to
loop-k-init c = (refl, refl)

pub loop-k-preserved : goal.loop-k-preserved
unfolding swap_to
loop-k-preserved c = (simp length-set c.loop-k.invariant.0, rw (add-one, ← c.loop-k.invariant.1))
