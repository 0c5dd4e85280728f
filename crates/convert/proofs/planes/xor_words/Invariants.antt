use Rattle.std.specs.Prelude.{◌≡◌}
use Rattle.convert.specs.Code.RawPlanes.{xor_to}
use Rattle.convert.proofs.planes.xor_words.Given as goal

abbrev pub invariant-loop-k : goal.invariant-loop-k
invariant-loop-k l = l.words ≡ xor_to l.initial.words l.target l.source l.k
