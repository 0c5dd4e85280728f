use Rattle.std.specs.Prelude.{◌≡◌, length}
use Rattle.convert.specs.Code.RawPlanes.{mark_to}
use Rattle.convert.proofs.planes.reset_words.Given as goal

abbrev pub invariant-loop-q : goal.invariant-loop-q
invariant-loop-q l = (length l.words ≡ length l.initial.words) × (l.words ≡ mark_to l.initial.words l.l l.q)
