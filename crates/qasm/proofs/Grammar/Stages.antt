-- The reader at a stage: it goes on past a statement, and stops where none is taken.
use mathlib.Core.Path.{◌≡◌, refl, ap, ap₂, sym, ◌∙◌}
use mathlib.Core.Bool.{true, false, cond}
use mathlib.Core.List.{List, [], ◌∷◌, ◌++◌}
use Prim.Native.Nat.{ℕ, zero, suc, ◌-◌, ◌≤◌, ◌<◌}
use native.Mathlib.Omega.{arith}
use lib.ListN.{length}
use Rattle.qasm.specs.Names.{word_qreg, word_creg}
use Rattle.qasm.specs.Text.{Record, Stage, at_version, at_include, at_qreg, at_creg, at_gates, before_gates}
use Rattle.qasm.specs.Reading.{Read, program, bad_text, Try, got, failed, and_then, blank, take_version, take_include, take_register, take_gate, register, Gates, gates, bad, more, gates_by, gates_from, is_empty, or_place, finish, from_gates, from_creg, from_qreg, from_include, reading}
use Rattle.qasm.proofs.Tries.{then-got}
use Rattle.qasm.proofs.Grammar.Phrases.{Through, through}
use Rattle.qasm.proofs.Grammar.Tokens.{saw}
use Rattle.qasm.proofs.Grammar.Lengths.{gate-blank, version-blank, include-blank, register-blank, blank-shorter}
use Rattle.qasm.proofs.Grammar.Steps.{Onward, onward, step_at, step_shorter, step-blank}

-- what the reader answers at a stage, of a text of which this is left
unfoldable pub read_at : ℕ → Stage → List ℕ → Read
read_at all at_version text = or_place all (blank text) (take_version (blank text)) (λ u r. from_include all r)
read_at all at_include text = from_include all text
read_at all at_qreg text = from_qreg all text
read_at all (at_creg q n) text = from_creg all (register q n) text
read_at all (at_gates q n c m) text = from_gates all (register q n) (register c m) text

pub read_from : (text : List ℕ) → reading text ≡ read_at (length text) at_version text
unfolding reading read_at
read_from text = refl

-- gates in front
abbrev pub prepend : List Record → Read → Read
prepend gs (program n m hs) = program n m (gs ++ hs)
prepend gs (bad_text k) = bad_text k

pub prepend-none : (x : Read) → prepend [] x ≡ x
prepend-none (program n m hs) = refl
prepend-none (bad_text k) = refl

-- ---- the gates

blank-less : (text : List ℕ) → length (blank text) ≤ length text
blank-less text = go (blank text) refl
  where
    go : (t : List ℕ) → blank text ≡ t → length t ≤ length text
    go [] e = omega arith
    go (b ∷ r) e = blank-shorter (saw text b r e).0

gate_shorter : (q c text : List ℕ) (g : Record) (after : List ℕ) → take_gate q c text ≡ got g after → length after < length text
unfolding step_at
gate_shorter q c text g after e = step_shorter (at_gates q 0 c 0) text (onward (at_gates q 0 c 0) (g ∷ [])) after (ap (λ z. and_then z (λ g r. got (onward
    (at_gates q 0 c 0) (g ∷ [])) r)) e ∙ then-got g after (λ g r. got (onward (at_gates q 0 c 0) (g ∷ [])) r))

-- past the text's length, more steps change nothing
gates-enough : (f : ℕ) (q c text : List ℕ) → length text ≤ f → gates_from (suc f) q c text ≡ gates_from f q c text
unfolding blank
gates-enough zero q c [] h = refl
gates-enough zero q c (b ∷ r) h = absurd (omega arith)
gates-enough (suc f) q c text h = ap (λ z. cond (is_empty (blank text)) (gates []) z) (go (take_gate q c (blank text)) refl (λ r k. gates-enough f q c r k))
  where
    less : (r : List ℕ) → length r < length (blank text) → length (blank text) ≤ length text → length r ≤ f
    less r a b = omega arith

    go : (x : Try Record) → take_gate q c (blank text) ≡ x → ((r : List ℕ) → length r ≤ f → gates_from (suc f) q c r ≡ gates_from f q c r)
        → gates_by x (λ r. gates_from (suc f) q c r) (length (blank text)) ≡ gates_by x (λ r. gates_from f q c r) (length (blank text))
    go failed e i = refl
    go (got g r) e i = ap (more g) (i r (less r (gate_shorter q c (blank text) g r e) (blank-less text)))

none_there : (q c text rest : List ℕ) (g : Record) → take_gate q c text ≡ got g rest → blank text ≡ [] → ⊥
none_there q c text rest g e k = go (gate_shorter q c [] g rest (ap (take_gate q c) (sym k) ∙ gate-blank q c text ∙ e))
  where
    go : length rest < 0 → ⊥
    go h = omega arith

one_gate : (f : ℕ) (q c text mid : List ℕ) (g : Record) → take_gate q c text ≡ got g mid → gates_from (suc f) q c text ≡ more g (gates_from f q c mid)
one_gate f q c text mid g e = go (blank text) refl
  where
    go : (t : List ℕ) → blank text ≡ t → cond (is_empty (blank text)) (gates []) (gates_by (take_gate q c (blank text)) (λ r. gates_from f q c r) (length
        (blank text))) ≡ more g (gates_from f q c mid)
    go [] x = absurd (none_there q c text mid g e x)
    go (b ∷ t) x = ap₂ (λ y z. cond (is_empty y) (gates []) (gates_by z (λ r. gates_from f q c r) (length y))) x (gate-blank q c text ∙ e)

gates-on : (all : ℕ) (q c text mid : List ℕ) (g : Record) → length text ≤ all → take_gate q c text ≡ got g mid → gates_from all q c text ≡ more g (gates_from all q c mid)
gates-on zero q c text mid g h e = absurd (none (gate_shorter q c text g mid e))
  where
    none : length mid < length text → ⊥
    none k = omega arith
gates-on (suc f) q c text mid g h e = one_gate f q c text mid g e ∙ ap (more g) (sym (gates-enough f q c mid (less (gate_shorter q c text g mid e))))
  where
    less : length mid < length text → length mid ≤ f
    less k = omega arith

gates-bad : (all : ℕ) (q c text : List ℕ) (b : ℕ) (r : List ℕ) → length text ≤ all → blank text ≡ b ∷ r → take_gate q c text ≡ failed → gates_from all q c text ≡ bad (length (b ∷ r))
gates-bad zero q c text b r h e k = absurd (none (blank-less text) (ap length e))
  where
    none : length (blank text) ≤ length text → length (blank text) ≡ suc (length r) → ⊥
    none x y = omega arith
gates-bad (suc f) q c text b r h e k = ap₂ (λ y z. cond (is_empty y) (gates []) (gates_by z (λ r. gates_from f q c r) (length y))) e (gate-blank q c text ∙ k)

gates-end : (all : ℕ) (q c text : List ℕ) → blank text ≡ [] → gates_from all q c text ≡ gates []
gates-end zero q c text e = refl
gates-end (suc f) q c text e = rw e

finish-more : (all n m : ℕ) (g : Record) (G : Gates) → finish all n m (more g G) ≡ prepend (g ∷ []) (finish all n m G)
finish-more all n m g (gates gs) = refl
finish-more all n m g (bad k) = refl

-- ---- past a statement

place_on : {A : Type 0} (all : ℕ) (t : List ℕ) (x : Try A) (K : A → List ℕ → Read) (S : A → Onward) (o : Onward) (after : List ℕ) → and_then x (λ a r. got (S a) r) ≡ got o after
    → ((a : A) (r : List ℕ) → K a r ≡ prepend (S a).made (read_at all (S a).stage r)) → or_place all t x K ≡ prepend o.made (read_at all o.stage after)
place_on all t x K S o after e f = go (through x (λ a r. got (S a) r) o after e)
  where
    is : (a : Onward) (r : List ℕ) → got a r ≡ got o after → prepend a.made (read_at all a.stage r) ≡ prepend o.made (read_at all o.stage after)
    is a r k = ap₂ (λ y z. prepend y.made (read_at all y.stage z)) (value k) (left k)
      where
        value : got a r ≡ got o after → a ≡ o
        value k = cc

        left : got a r ≡ got o after → r ≡ after
        left k = cc

    go : Through x (λ a r. got (S a) r) o after → or_place all t x K ≡ prepend o.made (read_at all o.stage after)
    go p = ap (λ z. or_place all t z K) p.first ∙ f p.value p.mid ∙ is (S p.value) p.mid p.second

pub read_on : (all : ℕ) (s : Stage) (text : List ℕ) (o : Onward) (after : List ℕ) → length text ≤ all → step_at s text ≡ got o after
    → read_at all s text ≡ prepend o.made (read_at all o.stage after)
unfolding step_at read_at from_include from_qreg from_creg from_gates
read_on all at_version text o after h e = ap (λ z. or_place all (blank text) z (λ u r. from_include all r)) (version-blank text)
    ∙ place_on all (blank text) (take_version text) (λ u r. from_include all r) (λ u. onward at_include []) o after e (λ a r. sym (prepend-none (from_include all r)))
read_on all at_include text o after h e = ap (λ z. or_place all (blank text) z (λ u r. from_qreg all r)) (include-blank text)
    ∙ place_on all (blank text) (take_include text) (λ u r. from_qreg all r) (λ u. onward at_qreg []) o after e (λ a r. sym (prepend-none (from_qreg all r)))
read_on all at_qreg text o after h e = ap (λ z. or_place all (blank text) z (λ q r. from_creg all q r)) (register-blank word_qreg [] text)
    ∙ place_on all (blank text) (take_register word_qreg [] text) (λ q r. from_creg all q r) (λ q. onward (at_creg q.name q.size) []) o after e (λ a r. sym
    (prepend-none (from_creg all a r)))
read_on all (at_creg q n) text o after h e = ap (λ z. or_place all (blank text) z (λ c r. from_gates all (register q n) c r)) (register-blank word_creg q text)
    ∙ place_on all (blank text) (take_register word_creg q text) (λ c r. from_gates all (register q n) c r) (λ c. onward (at_gates q n c.name c.size) []) o after e
    (λ a r. sym (prepend-none (from_gates all (register q n) a r)))
read_on all (at_gates q n c m) text o after h e = go (through (take_gate q c text) (λ g r. got (onward (at_gates q n c m) (g ∷ [])) r) o after e)
  where
    is : (g : Record) (r : List ℕ) → got (onward (at_gates q n c m) (g ∷ [])) r ≡ got o after
        → prepend (g ∷ []) (read_at all (at_gates q n c m) r) ≡ prepend o.made (read_at all o.stage after)
    is g r k = ap₂ (λ y z. prepend y.made (read_at all y.stage z)) (value k) (left k)
      where
        value : got (onward (at_gates q n c m) (g ∷ [])) r ≡ got o after → onward (at_gates q n c m) (g ∷ []) ≡ o
        value k = cc

        left : got (onward (at_gates q n c m) (g ∷ [])) r ≡ got o after → r ≡ after
        left k = cc

    go : Through (take_gate q c text) (λ g r. got (onward (at_gates q n c m) (g ∷ [])) r) o after → finish all n m (gates_from all q c text) ≡ prepend o.made (read_at all o.stage after)
    go p = ap (finish all n m) (gates-on all q c text p.mid p.value h p.first) ∙ finish-more all n m p.value (gates_from all q c p.mid) ∙ is p.value p.mid p.second

-- ---- where none is taken

not-got : {A : Type 0} (x : Try A) (S : A → Onward) → and_then x (λ a r. got (S a) r) ≡ failed → x ≡ failed
not-got (got a t) S e = absurd (never (sym (then-got a t (λ a r. got (S a) r)) ∙ e))
  where
    never : got (S a) t ≡ failed → ⊥
    never e = let z : ◌≡◌ {A = ℕ} 0 1 = cc in omega arith
not-got failed S e = refl

place-bad : {A : Type 0} (all : ℕ) (t u : List ℕ) (x : Try A) (K : A → List ℕ → Read) → t ≡ u → x ≡ failed → or_place all t x K ≡ bad_text (all - length u)
place-bad all t u x K e f = ap₂ (λ y z. or_place all y z K) e f

pub read-bad : (all : ℕ) (s : Stage) (text : List ℕ) (b : ℕ) (r : List ℕ) → length text ≤ all → blank text ≡ b ∷ r → step_at s text ≡ failed
    → read_at all s text ≡ bad_text (all - length (b ∷ r))
unfolding step_at read_at from_include from_qreg from_creg from_gates
read-bad all at_version text b r h e k = place-bad all (blank text) (b ∷ r) (take_version (blank text)) (λ u r. from_include all r) e (version-blank text
    ∙ not-got (take_version text) (λ u. onward at_include []) k)
read-bad all at_include text b r h e k = place-bad all (blank text) (b ∷ r) (take_include (blank text)) (λ u r. from_qreg all r) e (include-blank text
    ∙ not-got (take_include text) (λ u. onward at_qreg []) k)
read-bad all at_qreg text b r h e k = place-bad all (blank text) (b ∷ r) (take_register word_qreg [] (blank text)) (λ q r. from_creg all q r) e
    (register-blank word_qreg [] text ∙ not-got (take_register word_qreg [] text) (λ q. onward (at_creg q.name q.size) []) k)
read-bad all (at_creg q n) text b r h e k = place-bad all (blank text) (b ∷ r) (take_register word_creg q (blank text)) (λ c r. from_gates all (register q n) c r) e
    (register-blank word_creg q text ∙ not-got (take_register word_creg q text) (λ c. onward (at_gates q n c.name c.size) []) k)
read-bad all (at_gates q n c m) text b r h e k = ap (finish all n m) (gates-bad all q c text b r h e (not-got (take_gate q c text) (λ g. onward (at_gates q n c m) (g ∷ [])) k))

-- ---- where the text ends

step_none : (s : Stage) (text : List ℕ) → blank text ≡ [] → step_at s text ≡ failed
step_none s text e = go (step_at s text) refl
  where
    go : (x : Try Onward) → step_at s text ≡ x → step_at s text ≡ failed
    go failed k = k
    go (got o after) k = absurd (none (step_shorter s [] o after (ap (step_at s) (sym e) ∙ step-blank s text ∙ k)))
      where
        none : length after < 0 → ⊥
        none h = omega arith

whole : (n : ℕ) → n - 0 ≡ n
whole n = omega arith

place_end : {A : Type 0} (all : ℕ) (t : List ℕ) (x : Try A) (K : A → List ℕ → Read) → t ≡ [] → x ≡ failed → or_place all t x K ≡ bad_text all
place_end all t x K e f = place-bad all t [] x K e f ∙ ap bad_text (whole all)

-- before the gates, the whole length is the place
pub read_short : (all : ℕ) (s : Stage) (text : List ℕ) → before_gates s ≡ true → blank text ≡ [] → read_at all s text ≡ bad_text all
unfolding step_at read_at from_include from_qreg from_creg
read_short all at_version text b e = place_end all (blank text) (take_version (blank text)) (λ u r. from_include all r) e (version-blank text
    ∙ not-got (take_version text) (λ u. onward at_include []) (step_none at_version text e))
read_short all at_include text b e = place_end all (blank text) (take_include (blank text)) (λ u r. from_qreg all r) e (include-blank text
    ∙ not-got (take_include text) (λ u. onward at_qreg []) (step_none at_include text e))
read_short all at_qreg text b e = place_end all (blank text) (take_register word_qreg [] (blank text)) (λ q r. from_creg all q r) e (register-blank word_qreg [] text
    ∙ not-got (take_register word_qreg [] text) (λ q. onward (at_creg q.name q.size) []) (step_none at_qreg text e))
read_short all (at_creg q n) text b e = place_end all (blank text) (take_register word_creg q (blank text)) (λ c r. from_gates all (register q n) c r) e
    (register-blank word_creg q text ∙ not-got (take_register word_creg q text) (λ c. onward (at_gates q n c.name c.size) []) (step_none (at_creg q n) text e))
read_short all (at_gates q n c m) text b e = absurd (never b)
  where
    never : false ≡ true → ⊥
    never b = let z : ◌≡◌ {A = ℕ} 0 1 = cc in omega arith

-- and among the gates all is read
pub read_end : (all : ℕ) (q : List ℕ) (n : ℕ) (c : List ℕ) (m : ℕ) (text : List ℕ) → blank text ≡ [] → read_at all (at_gates q n c m) text ≡ program n m []
unfolding read_at from_gates
read_end all q n c m text e = ap (finish all n m) (gates-end all q c text e)
