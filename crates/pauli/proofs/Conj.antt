-- Conjugation by a gate: the direct rules of the gates made of h, s and cnot; a homomorphism that keeps the signs +1 and -1; undone by the inverse gate.
use mathlib.Core.Path.{◌≡◌, refl, ap, sym, ◌∙◌}
use mathlib.Core.Logic.{◌≢◌}
use mathlib.Core.List.{List, [], ◌∷◌, ◌++◌}
use Prim.Native.Nat.{ℕ, ◌<◌}
use lib.Dec.{T}
use lib.ListN.{length}
use lib.Seq.{lt-length-set}
use Rattle.pauli.specs.Letters.{Pauli}
use Rattle.pauli.specs.Rows.{Row, Width}
use Rattle.pauli.specs.Gates.{Image₁, Image₂, plus, plus₂, act₁, act₂, rule_h, rule_s, rule_cnot, rule_x, rule_z, rule_sdg, rule_cz, by_h, by_s, by_cnot}
use Rattle.pauli.specs.Gates.{Gate, gate_h, gate_x, gate_z, gate_s, gate_sdg, gate_cnot, gate_cz, Valid, AllValid, conj, inverse, forward, back, direct}
use Rattle.pauli.proofs.Local.{Hom, hom_id, hom_after, hom_like, hom₁, hom₂, letter₁, letter₂, in_row, then₁, then₂, on_second, act₁-then, act₂-then, act₁-second, alike₁, alike₂, act₁-alike, act₂-alike, act₁-plus, act₂-plus}

-- ---- direct rules

two_s : (q : ℕ) (P : Row) → q < length P.letters → by_s q (by_s q P) ≡ act₁ rule_z q P
two_s q P h = act₁-then rule_s rule_s q P h ∙ act₁-alike (then₁ rule_s rule_s) rule_z tt q P

three_s : (q : ℕ) (P : Row) → q < length P.letters → by_s q (by_s q (by_s q P)) ≡ act₁ rule_sdg q P
three_s q P h = ap (by_s q) (two_s q P h) ∙ act₁-then rule_z rule_s q P h ∙ act₁-alike (then₁ rule_z rule_s) rule_sdg tt q P

h_z_h : (q : ℕ) (P : Row) → q < length P.letters → by_h q (by_s q (by_s q (by_h q P))) ≡ act₁ rule_x q P
h_z_h q P h =
    ap (by_h q) (two_s q (by_h q P) (lt-length-set P.letters q _ h)) ∙ ap (by_h q) (act₁-then rule_h rule_z q P h)
    ∙ act₁-then (then₁ rule_h rule_z) rule_h q P h ∙ act₁-alike (then₁ (then₁ rule_h rule_z) rule_h) rule_x tt q P

h_cnot_h : (c t : ℕ) (P : Row) → c < length P.letters → t < length P.letters → c ≢ t → by_h t (by_cnot c t (by_h t P)) ≡ act₂ rule_cz c t P
h_cnot_h c t P hc ht ne =
    ap (λ R. by_h t (by_cnot c t R)) (act₁-second rule_h c t P) ∙ ap (by_h t) (act₂-then (on_second rule_h) rule_cnot c t P hc ht ne)
    ∙ act₁-second rule_h c t (act₂ (then₂ (on_second rule_h) rule_cnot) c t P) ∙ act₂-then (then₂ (on_second rule_h) rule_cnot) (on_second rule_h) c t P hc ht ne
    ∙ act₂-alike (then₂ (then₂ (on_second rule_h) rule_cnot) (on_second rule_h)) rule_cz tt c t P

pub conj-direct : (n : ℕ) (g : Gate) (P : Row) → Valid n g → Width n P → conj g P ≡ direct g P
unfolding conj
conj-direct n (gate_h q) P v w = refl
conj-direct n (gate_x q) P v w = h_z_h q P (in_row P w v)
conj-direct n (gate_z q) P v w = two_s q P (in_row P w v)
conj-direct n (gate_s q) P v w = refl
conj-direct n (gate_sdg q) P v w = three_s q P (in_row P w v)
conj-direct n (gate_cnot c t) P v w = refl
conj-direct n (gate_cz c t) P v w = h_cnot_h c t P (in_row P w v.0) (in_row P w v.1) v.2

-- ---- homomorphisms: each rule by its test over the letters

hom-direct : (n : ℕ) (g : Gate) → Valid n g → Hom n (direct g)
hom-direct n (gate_h q) v = hom₁ rule_h (letter₁ rule_h tt tt refl tt) n q v
hom-direct n (gate_x q) v = hom₁ rule_x (letter₁ rule_x tt tt refl tt) n q v
hom-direct n (gate_z q) v = hom₁ rule_z (letter₁ rule_z tt tt refl tt) n q v
hom-direct n (gate_s q) v = hom₁ rule_s (letter₁ rule_s tt tt refl tt) n q v
hom-direct n (gate_sdg q) v = hom₁ rule_sdg (letter₁ rule_sdg tt tt refl tt) n q v
hom-direct n (gate_cnot c t) v = hom₂ rule_cnot (letter₂ rule_cnot tt tt tt refl tt) n c t v.0 v.1 v.2
hom-direct n (gate_cz c t) v = hom₂ rule_cz (letter₂ rule_cz tt tt tt refl tt) n c t v.0 v.1 v.2

pub hom-conj : (n : ℕ) (g : Gate) → Valid n g → Hom n (conj g)
hom-conj n g v = hom_like n (conj g) (direct g) (hom-direct n g v) (λ P w. conj-direct n g P v w)

-- ---- the inverse gate

undo₁ : (n : ℕ) (f g : Pauli → Image₁) → T (alike₁ (then₁ f g) plus) → (q : ℕ) (P : Row) → q < n → Width n P → act₁ g q (act₁ f q P) ≡ P
undo₁ n f g t q P v w = act₁-then f g q P (in_row P w v) ∙ act₁-alike (then₁ f g) plus t q P ∙ act₁-plus q P

undo₂ : (n : ℕ) (f g : Pauli → Pauli → Image₂) → T (alike₂ (then₂ f g) plus₂) → (c t : ℕ) (P : Row)
    → c < n → t < n → c ≢ t → Width n P → act₂ g c t (act₂ f c t P) ≡ P
undo₂ n f g e c t P hc ht ne w = act₂-then f g c t P (in_row P w hc) (in_row P w ht) ne ∙ act₂-alike (then₂ f g) plus₂ e c t P ∙ act₂-plus c t P

direct-undo : (n : ℕ) (g : Gate) (P : Row) → Valid n g → Width n P → direct g (direct (inverse g) P) ≡ P
direct-undo n (gate_h q) P v w = undo₁ n rule_h rule_h tt q P v w
direct-undo n (gate_x q) P v w = undo₁ n rule_x rule_x tt q P v w
direct-undo n (gate_z q) P v w = undo₁ n rule_z rule_z tt q P v w
direct-undo n (gate_s q) P v w = undo₁ n rule_sdg rule_s tt q P v w
direct-undo n (gate_sdg q) P v w = undo₁ n rule_s rule_sdg tt q P v w
direct-undo n (gate_cnot c t) P v w = undo₂ n rule_cnot rule_cnot tt c t P v.0 v.1 v.2 w
direct-undo n (gate_cz c t) P v w = undo₂ n rule_cz rule_cz tt c t P v.0 v.1 v.2 w

pub valid-inverse : (n : ℕ) (g : Gate) → Valid n g → Valid n (inverse g)
valid-inverse n (gate_h q) v = v
valid-inverse n (gate_x q) v = v
valid-inverse n (gate_z q) v = v
valid-inverse n (gate_s q) v = v
valid-inverse n (gate_sdg q) v = v
valid-inverse n (gate_cnot c t) v = v
valid-inverse n (gate_cz c t) v = v

pub inverse-inverse : (g : Gate) → inverse (inverse g) ≡ g
inverse-inverse (gate_h q) = refl
inverse-inverse (gate_x q) = refl
inverse-inverse (gate_z q) = refl
inverse-inverse (gate_s q) = refl
inverse-inverse (gate_sdg q) = refl
inverse-inverse (gate_cnot c t) = refl
inverse-inverse (gate_cz c t) = refl

pub conj-undo : (n : ℕ) (g : Gate) (P : Row) → Valid n g → Width n P → conj g (conj (inverse g) P) ≡ P
conj-undo n g P v w =
    rw (conj-direct n (inverse g) P i w, conj-direct n g (direct (inverse g) P) v ((hom-direct n (inverse g) i).width P w)) (direct-undo n g P v w)
  where
    i : Valid n (inverse g)
    i = valid-inverse n g v

-- ---- gate lists

pub hom-back : (n : ℕ) (gs : List Gate) → AllValid n gs → Hom n (back gs)
unfolding back
hom-back n [] v = hom_id n
hom-back n (g ∷ gs) v = hom_after n (conj (inverse g)) (back gs) (hom-conj n (inverse g) (valid-inverse n g v.0)) (hom-back n gs v.1)

pub hom-forward : (n : ℕ) (gs : List Gate) → AllValid n gs → Hom n (forward gs)
unfolding forward
hom-forward n [] v = hom_id n
hom-forward n (g ∷ gs) v = hom_after n (forward gs) (conj g) (hom-forward n gs v.1) (hom-conj n g v.0)

-- U (U† P U) U† is P
pub forward-back : (n : ℕ) (gs : List Gate) (P : Row) → AllValid n gs → Width n P → forward gs (back gs P) ≡ P
unfolding back forward
forward-back n [] P v w = refl
forward-back n (g ∷ gs) P v w =
    ap (forward gs) (conj-undo n g (back gs P) v.0 ((hom-back n gs v.1).width P w)) ∙ forward-back n gs P v.1 w

-- and U† (U P U†) U is P
pub back-forward : (n : ℕ) (gs : List Gate) (P : Row) → AllValid n gs → Width n P → back gs (forward gs P) ≡ P
unfolding back forward
back-forward n [] P v w = refl
back-forward n (g ∷ gs) P v w =
    ap (conj (inverse g)) (back-forward n gs (conj g P) v.1 ((hom-conj n g v.0).width P w))
    ∙ ap (λ h. conj (inverse g) (conj h P)) (sym (inverse-inverse g)) ∙ conj-undo n (inverse g) P (valid-inverse n g v.0) w

-- one more gate
pub back-snoc : (gs : List Gate) (g : Gate) (P : Row) → back (gs ++ g ∷ []) P ≡ back gs (conj (inverse g) P)
unfolding back
back-snoc [] g P = refl
back-snoc (f ∷ gs) g P = ap (conj (inverse f)) (back-snoc gs g P)
