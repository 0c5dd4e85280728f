use mathlib.Core.Path.{refl}
use native.Mathlib.Numerals.{add-one}
use Rattle.convert.specs.Code.RawPlanes.{xor_to}
use Rattle.convert.proofs.planes.xor_words.Goals as goal

pub loop-k-init : goal.loop-k-init
unfolding xor_to
loop-k-init c = refl

pub loop-k-preserved : goal.loop-k-preserved
unfolding xor_to
loop-k-preserved c = rw (add-one, ← c.loop-k.invariant)
