-- The words of gates read back as records, and the kinds of what a text says.
use mathlib.Core.Path.{◌≡◌, refl, ap, sym, ◌∙◌}
use mathlib.Core.Bool.{Bool, true, ◌&&◌, not}
use mathlib.Core.List.{List, [], ◌∷◌, ◌++◌, map}
use Prim.Native.Nat.{ℕ, zero, suc, ◌*◌, ◌<◌}
use native.Mathlib.Omega.{arith}
use lib.ListN.{length, take, get_or}
use lib.Seq.{take-append_seam}
use Rattle.qasm.specs.Names.{Named, gate_names}
use Rattle.qasm.specs.Tokens.{Token}
use Rattle.qasm.specs.Text.{Record, Stage, Statement, Statements, version_line, include_line, qreg_line, creg_line, measure_line, one_line, two_line, three_line, none_more, one_more}
use Rattle.qasm.specs.Answers.{words_of}
use Rattle.qasm.proofs.Truth.{and_left, and_right}
use Rattle.convert.specs.Records.{records, kind_of}
use Rattle.convert.specs.Conversion.{is_unsupported}
use Rattle.programs.specs.Programs.{gate_record}

-- ---- words and records

pub words_long : (gs : List Record) → length (words_of gs) ≡ 4 * length gs
words_long [] = refl
words_long (g ∷ gs) = let e = words_long gs in omega (arith, e)

pub records-back : (gs : List Record) → records (words_of gs) ≡ map gate_record gs
unfolding records
records-back [] = refl
records-back (g ∷ gs) = ap (λ rs. gate_record g ∷ rs) (records-back gs)

pub first_words : (gs : List Record) (rest : List ℕ) → take (4 * length gs) (words_of gs ++ rest) ≡ words_of gs
first_words gs rest = ap (λ k. take k (words_of gs ++ rest)) (sym (words_long gs)) ∙ take-append_seam (words_of gs) rest

-- ---- kinds

-- every gate is of a kind that the conversion has
abbrev pub supported : List Record → Bool
supported [] = true
supported (g ∷ gs) = not (is_unsupported (kind_of g.kind)) && supported gs

-- the conversion has the kind
abbrev known : Named → Bool
known g = not (is_unsupported (kind_of g.kind))

abbrev all_known : List Named → Bool
all_known [] = true
all_known (g ∷ gs) = known g && all_known gs

both : (a b : Bool) → a ≡ true → b ≡ true → (a && b) ≡ true
both a b e f = rw (e, f)

known_at : (gs : List Named) (k : ℕ) (g : Named) → all_known gs ≡ true → k < length gs → known (get_or gs k g) ≡ true
known_at [] k g e h = absurd (omega (arith, h))
known_at (f ∷ gs) zero g e h = and_left (known f) (all_known gs) e
known_at (f ∷ gs) (suc k) g e h = known_at gs k g (and_right (known f) (all_known gs) e) (omega arith)

known-name : (k : ℕ) (g : Named) → get_or gate_names k g ≡ g → k < 12 → known g ≡ true
unfolding kind_of
known-name k g e h = sym (ap known e) ∙ known_at gate_names k g refl h

supported-one : {s s₁ : Stage} {ts : List Token} {gs : List Record} → Statement s ts s₁ gs → supported gs ≡ true
unfolding kind_of
supported-one version_line = refl
supported-one include_line = refl
supported-one (qreg_line q n a b c) = refl
supported-one (creg_line q c n m a b d e) = refl
supported-one (measure_line q c n m i j a b) = refl
supported-one (one_line q c n m i k g e h a b) = both (known g) true (known-name k g e h) refl
supported-one (two_line q c n m i j k g e h a b d) = both (known g) true (known-name k g e h) refl
supported-one (three_line q c n m i j l k g e h a b d f) = both (known g) true (known-name k g e h) refl

supported-both : (gs hs : List Record) → supported gs ≡ true → supported hs ≡ true → supported (gs ++ hs) ≡ true
supported-both [] hs e f = f
supported-both (g ∷ gs) hs e f =
    let a = not (is_unsupported (kind_of g.kind)) in
    both a (supported (gs ++ hs)) (and_left a (supported gs) e) (supported-both gs hs (and_right a (supported gs) e) f)

pub supported-all : {s s₁ : Stage} {text rest : List ℕ} {gs : List Record} → Statements s text s₁ rest gs → supported gs ≡ true
supported-all none_more = refl
supported-all (one_more {gs = gs} {hs = hs} one laid more e) = ap supported e ∙ supported-both gs hs (supported-one one) (supported-all more)
