-- After an accepted conversion and any later calls the words read as the conversion's operations and then those pushed; so the whole holds of the words.
use mathlib.Core.Path.{◌≡◌, refl, ap, sym, ◌∙◌, subst}
use mathlib.Core.Bool.{Bool}
use mathlib.Core.List.{List, [], ◌∷◌, ◌++◌, map, append-nil, append_assoc}
use Prim.Native.Nat.{ℕ}
use lib.ListN.{length}
use Rattle.arena.specs.Limits.{hand_mark}
use Rattle.convert.specs.Records.{From, from, without_index}
use Rattle.convert.specs.Plain.{Operation}
use Rattle.convert.specs.Words.{decoded, op_from, ops_from}
use Rattle.convert.specs.Conversion.{Input, limits, word_end, convert_check, converted_header, convert_step}
use Rattle.convert.specs.Later.{Circuit, converted, LaterCall, later, laters, AllCarried}
use Rattle.convert.specs.Sources.{All}
use Rattle.convert.specs.Routing.{AllRouted}
use Rattle.convert.proofs.Meaning.Words.{map-append, without_more, OpsUnder}
use Rattle.convert.proofs.Meaning.Operations.{ops_read}
use Rattle.convert.proofs.Meaning.Sources.{all_append}
use Rattle.convert.proofs.Calls.Table.{made-step, meant-input}
use Rattle.convert.proofs.Calls.Converted.{sized_words}
use Rattle.convert.proofs.Theorems.{cap_guarantee}
use Rattle.operators.specs.Types.{Fine, Cap}
use Rattle.operators.specs.Operators.{Operators}
use Rattle.operators.specs.Whole.{sourced_of, operations_of, Performs}
use Rattle.operators.specs.After.{pushed_by, pushed, by_hand, RoutedUnlessByHand, circuit_and_calls, AfterWords}
use Rattle.operators.proofs.After.{after}
use Rattle.operators.proofs.Reading.{Names}
use Rattle.operators.proofs.Calls.{Reads, call_reads}

-- any calls
read_calls : (cs : List LaterCall) (s : Circuit) → AllCarried cs s → Names s → sourced_of (laters cs s) ≡ sourced_of s ++ by_hand (pushed cs s)
unfolding laters AllCarried pushed
read_calls [] s h U = sym (append-nil (sourced_of s))
read_calls (c ∷ cs) s h U =
    read_calls cs (later c s) h.1 R.names ∙ ap (λ os. os ++ by_hand (pushed cs (later c s))) R.reads ∙ append_assoc (sourced_of s) (by_hand (pushed_by c s)) (by_hand (pushed cs (later c s)))
    ∙ ap (λ os. sourced_of s ++ os) (sym (map-append (from hand_mark) (pushed_by c s) (pushed cs (later c s))))
  where
    R : Reads s (later c s) (pushed_by c s)
    R = call_reads s U c h.0

-- ---- after a conversion

names_input : (x : Input) → convert_check limits x ≡ Fine → Names (converted x)
unfolding converted
names_input x e = subst (OpsUnder (word_end x).arena.count) (sym read) (meant-input x e).core.written.below
  where
    read : ops_from (op_from (converted_header x) (convert_step x).operations) 0 (length (word_end x).ops) ≡ map (decoded x.owner x.cbits) (word_end x).ops
    read = ap (λ w. ops_from (op_from (converted_header x) w) 0 (length (word_end x).ops)) (ap (λ r. r.operations) (made-step x e)) ∙ ops_read (converted_header x) (word_end x).ops _ (sized_words x)

-- with the gate record that each names: none for those pushed, which are by hand
pub sources-after : (x : Input) → convert_check limits x ≡ Fine → (cs : List LaterCall) → AllCarried cs (converted x)
    → sourced_of (laters cs (converted x)) ≡ sourced_of (converted x) ++ by_hand (pushed cs (converted x))
sources-after x e cs h = read_calls cs (converted x) h (names_input x e)

pub read-after : (x : Input) → convert_check limits x ≡ Fine → (cs : List LaterCall) → AllCarried cs (converted x)
    → operations_of (laters cs (converted x)) ≡ operations_of (converted x) ++ pushed cs (converted x)
read-after x e cs h = ap (λ os. without_index os) (sources-after x e cs h) ∙ without_more (sourced_of (converted x)) hand_mark (pushed cs (converted x))

-- ---- what is not by hand is the conversion's

routed_sourced : (cap : Cap) (os : List (From Operation)) → AllRouted cap (without_index os) → All (RoutedUnlessByHand cap) os
routed_sourced cap [] r = tt
routed_sourced cap (o ∷ os) r = ((λ ne. r.0), routed_sourced cap os r.1)

routed_by_hand : (cap : Cap) (os : List Operation) → All (RoutedUnlessByHand cap) (by_hand os)
routed_by_hand cap [] = tt
routed_by_hand cap (o ∷ os) = ((λ ne. absurd (ne refl)), routed_by_hand cap os)

pub routed-after : (x : Input) → convert_check limits x ≡ Fine → (cs : List LaterCall) → AllCarried cs (converted x)
    → All (RoutedUnlessByHand x.cap) (sourced_of (laters cs (converted x)))
unfolding converted
routed-after x e cs h =
    subst (All (RoutedUnlessByHand x.cap)) (sym (sources-after x e cs h))
    (all_append (RoutedUnlessByHand x.cap) (sourced_of (converted x)) (by_hand (pushed cs (converted x)))
    (routed_sourced x.cap (sourced_of (converted x)) (cap_guarantee x e)) (routed_by_hand x.cap (pushed cs (converted x))))

pub after-words : (x : Input) → convert_check limits x ≡ Fine → (cs : List LaterCall) → AllCarried cs (converted x) → (O : Operators x.qubits) (outcome : ℕ → Bool) → AfterWords x cs O outcome
after-words x e cs h O outcome =
    subst (λ os. Performs O outcome (circuit_and_calls x O outcome cs) os (laters cs (converted x))) (sym (read-after x e cs h)) (after x e cs O outcome)
