use Rattle.std.specs.Prelude.{◌≡◌, length}
use Rattle.convert.specs.Code.RawPlanes.{swap_to}
use Rattle.convert.proofs.planes.swap_words.Given as goal

abbrev pub invariant-loop-k : goal.invariant-loop-k
invariant-loop-k l = (length l.words ≡ length l.initial.words) × (l.words ≡ swap_to l.initial.words l.one l.other l.k)
