-- What is proved of a program and its conversion, in the words of specs/ alone. Every theorem of the conversion speaks of `records` of its gate words.
use mathlib.Core.Path.{◌≡◌, refl, ap, sym, subst, ◌∙◌}
use mathlib.Core.Bool.{not, ◌||◌}
use mathlib.Core.List.{List, map}
use Prim.Native.Nat.{ℕ, ◌*◌, ◌%◌, ◌≤◌}
use lib.Dec.{ltb, eqb}
use lib.ListN.{length, take, drop}
use borrow.Author.Tests.{eqb-false}
use Rattle.qasm.specs.Text.{Record, Says}
use Rattle.qasm.specs.Reading.{reading}
use Rattle.qasm.specs.Answers.{words_of, left_in}
use Rattle.qasm.proofs.Theorems.{answers}
use Rattle.convert.specs.Records.{records, kind_of}
use Rattle.convert.specs.Conversion.{Input, limits, convert_step}
use Rattle.programs.specs.Programs.{Kinds, Carried, gate_record, refused_with}
use Rattle.programs.proofs.Gates.{words_long, records-back, first_words, supported-all}
use Rattle.programs.proofs.Refusals.{KnownFor, never, answered, apart_five, apart_two, known_five, known_two, list_whole}

-- the numbers that the reader gives to names are the conversion's kinds
pub kinds : Kinds
unfolding kind_of
kinds = record { by_name = refl; qubits = refl; measure = refl }

-- a text that is read into enough room, and a conversion of the words that the reader leaves, as many as it answers
pub carried : (text words : List ℕ) (qubits bits : ℕ) (gs : List Record) (x : Input) → Says text qubits bits gs → 4 * length gs ≤ length words
    → x.gates ≡ take (4 * length gs) (left_in (reading text) words) → Carried gs x
carried text words qubits bits gs x says room given = record {
  same = same;
  no_five = eqb-false (refused_with (convert_step x).answer) 5
      (answered 5 apart_five x (never (not (eqb (length x.gates % 4) 0) || ltb limits.gate_words (length x.gates)))
      (subst (KnownFor 5) (sym same) (known_five gs (supported-all says.read))));
  no_two = λ few. eqb-false (refused_with (convert_step x).answer) 2 (answered 2 apart_two x (list_whole (length x.gates) (length gs) long few) (known_two (records x.gates)));
}
  where
    front : x.gates ≡ words_of gs
    front = given ∙ ap (take (4 * length gs)) ((answers text words).whole qubits bits gs says room).1 ∙ first_words gs (drop (4 * length gs) words)

    same : records x.gates ≡ map gate_record gs
    same = ap records front ∙ records-back gs

    long : length x.gates ≡ 4 * length gs
    long = ap length front ∙ words_long gs
