-- Litinski's rules: a quarter turn along a row of sign +1 or -1 is a homomorphism; a homomorphism carries a rotation to one along the axis's image,
-- by the same angle; and moving a quarter turn past a rotation by any angle turns its axis and nothing else.
use mathlib.Core.Path.{◌≡◌, refl, ap, ap₂, sym, ◌∙◌}
use mathlib.Core.Logic.{◌⊎◌, inl, inr}
use mathlib.Core.Bool.{Bool, true, false, not, cond}
use mathlib.Core.List.{List, [], ◌∷◌}
use Prim.Native.Nat.{ℕ, zero, suc, ◌+◌, ◌%◌}
use lib.Dec.{eqb}
use lib.ListN.{replicate}
use Rattle.pauli.specs.Letters.{Pauli, I, Phase, PlusI, MinusOne, MinusI, ◌⊕◌, phase_of, real, phase_number}
use Rattle.pauli.specs.Rows.{Row, Width, phases, ◌★◌, scaled, anti, anti_places, odd, anticommute, minus_if}
use Rattle.pauli.specs.Bits.{◌xor◌}
use Rattle.pauli.specs.Rotations.{quarter, quarters, rotate, quarter_last, quarter_first, SameSum}
use Rattle.pauli.proofs.Finite.{letters, turns, truths, phase, truth, law₁, law₂, law₃, ⊕-assoc, minus_minus}
use Rattle.pauli.proofs.Rows.{row_eq, assoc, exchange, identity-left, identity-right, width-★, scaled-left, scaled-right, odd-tally, no_minus, anticommute-★, anticommute-self, square}
use Rattle.pauli.proofs.Local.{Hom, hom_id, hom_after}

scaled-scaled : (p q : Phase) (P : Row) → scaled p (scaled q P) ≡ scaled (p ⊕ q) P
scaled-scaled p q P = row_eq refl (sym (⊕-assoc p q P.phase))

-- the exchange of two rows, where the sign is known
exchange-as : (P Q : Row) (b : Bool) → anticommute P Q ≡ b → P ★ Q ≡ scaled (minus_if b) (Q ★ P)
exchange-as P Q b e = exchange P Q ∙ ap (λ c. scaled (minus_if c) (Q ★ P)) e

-- ---- the phase of a product is real exactly if the letters commute

real-both : (p q : Phase) → real (p ⊕ q) ≡ not (real p xor real q)
real-both = law₂ turns truth _ _ tt

real-phase_of : (a b : Pauli) → real (phase_of a b) ≡ not (anti a b)
real-phase_of = law₂ letters truth _ _ tt

not-xor : (a b : Bool) → not (not a xor not b) ≡ not (a xor b)
not-xor = law₂ truths truth _ _ tt

pub real-phases : (u v : List Pauli) → real (phases u v) ≡ not (odd (anti_places u v))
real-phases [] v = refl
real-phases (a ∷ u) [] = refl
real-phases (a ∷ u) (b ∷ v) =
    real-both (phase_of a b) (phases u v) ∙ ap₂ (λ x y. not (x xor y)) (real-phase_of a b) (real-phases u v)
    ∙ not-xor (anti a b) (odd (anti_places u v)) ∙ ap not (sym (odd-tally (anti a b) (anti_places u v)))

-- what is added to two phases is real exactly if the three numbers have an even sum
even_added : (p q r : Phase) → eqb ((phase_number p + phase_number q + phase_number (p ⊕ q ⊕ r)) % 2) 0 ≡ real r
even_added = law₃ turns truth _ _ tt

-- two rows commute exactly if the numbers of their phases and of their product's phase have an even sum
pub even_commute : (P Q : Row) → eqb ((phase_number P.phase + phase_number Q.phase + phase_number (P ★ Q).phase) % 2) 0 ≡ not (anticommute P Q)
even_commute P Q = even_added P.phase Q.phase (phases P.letters Q.letters) ∙ real-phases P.letters Q.letters

-- ---- a quarter turn

module _ (n : ℕ) (P : Row) (wP : Width n P) (r : real P.phase ≡ true) where
  -- P (P R) is R
  twice : (R : Row) → Width n R → P ★ (P ★ R) ≡ R
  twice R w = sym (assoc P P R) ∙ ap (λ S. S ★ R) (square n P wP r) ∙ identity-left n R w

  quarter-times : (Q R : Row) → Width n R → quarter P (Q ★ R) ≡ quarter P Q ★ quarter P R
  quarter-times Q R wR = rw (anticommute-★ P Q R) (go (anticommute P Q) (anticommute P R) refl refl)
    where
      -- (P Q) (P R) is -(Q R) where P and Q anticommute
      through : anticommute P Q ≡ true → (P ★ Q) ★ (P ★ R) ≡ scaled MinusOne (Q ★ R)
      through h = ap (λ S. S ★ (P ★ R)) (exchange-as P Q true h) ∙ scaled-left MinusOne (Q ★ P) (P ★ R)
          ∙ ap (scaled MinusOne) (assoc Q P (P ★ R) ∙ ap (λ S. Q ★ S) (twice R wR))

      go : (a b : Bool) → anticommute P Q ≡ a → anticommute P R ≡ b
          → cond (a xor b) (scaled MinusI (P ★ (Q ★ R))) (Q ★ R) ≡ cond a (scaled MinusI (P ★ Q)) Q ★ cond b (scaled MinusI (P ★ R)) R
      go true true h k =
          sym (scaled-left MinusI (P ★ Q) (scaled MinusI (P ★ R)) ∙ ap (scaled MinusI) (scaled-right MinusI (P ★ Q) (P ★ R))
          ∙ ap (λ S. scaled MinusI (scaled MinusI S)) (through h) ∙ row_eq refl (law₁ turns phase (λ p. MinusI ⊕ (MinusI ⊕ (MinusOne ⊕ p))) (λ p. p) tt (Q ★ R).phase))
      go true false h k = sym (scaled-left MinusI (P ★ Q) R ∙ ap (scaled MinusI) (assoc P Q R))
      go false true h k =
          ap (scaled MinusI) (sym (assoc P Q R) ∙ ap (λ S. S ★ R) (exchange-as P Q false h) ∙ assoc Q P R) ∙ sym (scaled-right MinusI Q (P ★ R))
      go false false h k = refl

  pub hom-quarter : Hom n (quarter P)
  hom-quarter = record {
    width = λ Q w. width Q w (anticommute P Q);
    times = λ Q R wQ wR. quarter-times Q R wR;
    scales = λ p Q w. scales p Q (anticommute P Q);
    unit = rw (never n P.letters);
    signs = λ Q w. signs Q (anticommute P Q) refl;
  }
    where
      width : (Q : Row) → Width n Q → (b : Bool) → Width n (cond b (scaled MinusI (P ★ Q)) Q)
      width Q w true = width-★ n P Q wP w
      width Q w false = w

      scales : (p : Phase) (Q : Row) (b : Bool) → cond b (scaled MinusI (P ★ scaled p Q)) (scaled p Q) ≡ scaled p (cond b (scaled MinusI (P ★ Q)) Q)
      scales p Q true = ap (scaled MinusI) (scaled-right p P Q) ∙ scaled-scaled MinusI p (P ★ Q)
          ∙ ap (λ s. scaled s (P ★ Q)) (law₂ turns phase (λ p q. p ⊕ q) (λ p q. q ⊕ p) tt MinusI p) ∙ sym (scaled-scaled p MinusI (P ★ Q))
      scales p Q false = refl

      -- nothing anticommutes with the identity
      never : (m : ℕ) (u : List Pauli) → anti_places u (replicate m I) ≡ 0
      never zero [] = refl
      never zero (a ∷ u) = refl
      never (suc m) [] = refl
      never (suc m) (a ∷ u) = rw (law₁ letters truth (λ a. anti a I) (λ a. false) tt a) (never m u)

      signs : (Q : Row) (b : Bool) → anticommute P Q ≡ b → real (cond b (scaled MinusI (P ★ Q)) Q).phase ≡ real Q.phase
      signs Q true e = real-both MinusI (P.phase ⊕ Q.phase ⊕ phases P.letters Q.letters)
          ∙ ap (λ x. not (false xor x)) (real-both (P.phase ⊕ Q.phase) (phases P.letters Q.letters))
          ∙ ap₂ (λ x y. not (false xor not (x xor y))) (real-both P.phase Q.phase) (real-phases P.letters Q.letters ∙ ap not e)
          ∙ ap (λ x. not (false xor not (not (x xor real Q.phase) xor false))) r
          ∙ law₁ truths truth (λ q. not (false xor not (not (true xor q) xor false))) (λ q. q) tt (real Q.phase)
      signs Q false e = refl

  pub hom-quarters : (m : ℕ) → Hom n (quarters m P)
  hom-quarters zero = hom_id n
  hom-quarters (suc m) = hom_after n (quarter P) (quarters m P) hom-quarter (hom-quarters m)

  -- ---- two, three and four quarter turns: -Q, i P Q and Q

  pub half : (Q : Row) → Width n Q → rotate 4 P Q ≡ cond (anticommute P Q) (scaled MinusOne Q) Q
  half Q w = go (anticommute P Q) refl
    where
      again : anticommute P Q ≡ true → anticommute P (scaled MinusI (P ★ Q)) ≡ true
      again h = anticommute-★ P P Q ∙ ap₂ ◌xor◌ (anticommute-self P) h

      go : (b : Bool) → anticommute P Q ≡ b → quarter P (cond b (scaled MinusI (P ★ Q)) Q) ≡ cond b (scaled MinusOne Q) Q
      go true h = ap (λ b. cond b (scaled MinusI (P ★ scaled MinusI (P ★ Q))) (scaled MinusI (P ★ Q))) (again h)
          ∙ ap (scaled MinusI) (scaled-right MinusI P (P ★ Q) ∙ ap (scaled MinusI) (twice Q w)) ∙ scaled-scaled MinusI MinusI Q
      go false h = ap (λ b. cond b (scaled MinusI (P ★ Q)) Q) h

  pub three_quarters : (Q : Row) → Width n Q → rotate 6 P Q ≡ cond (anticommute P Q) (scaled PlusI (P ★ Q)) Q
  three_quarters Q w = ap (quarter P) (half Q w) ∙ go (anticommute P Q) refl
    where
      go : (b : Bool) → anticommute P Q ≡ b → quarter P (cond b (scaled MinusOne Q) Q) ≡ cond b (scaled PlusI (P ★ Q)) Q
      go true h = ap (λ b. cond b (scaled MinusI (P ★ scaled MinusOne Q)) (scaled MinusOne Q)) h ∙ ap (scaled MinusI) (scaled-right MinusOne P Q) ∙ scaled-scaled MinusI MinusOne (P ★ Q)
      go false h = ap (λ b. cond b (scaled MinusI (P ★ Q)) Q) h

  pub full : (Q : Row) → Width n Q → rotate 8 P Q ≡ Q
  full Q w = half (rotate 4 P Q) ((hom-quarters 2).width Q w) ∙ ap (λ R. cond (anticommute P R) (scaled MinusOne R) R) (half Q w) ∙ go (anticommute P Q) refl
    where
      go : (b : Bool) → anticommute P Q ≡ b → cond (anticommute P (cond b (scaled MinusOne Q) Q)) (scaled MinusOne (cond b (scaled MinusOne Q) Q)) (cond b (scaled MinusOne Q) Q) ≡ Q
      go true h = ap (λ b. cond b (scaled MinusOne (scaled MinusOne Q)) (scaled MinusOne Q)) h ∙ row_eq refl (minus_minus Q.phase)
      go false h = ap (λ b. cond b (scaled MinusOne Q) Q) h

  -- ---- past a rotation by any angle: (1 - i P) (-i Q) and (-i Q') (1 - i P) are the same sum, Q' the axis turned

  pub exchange-any_angle : (Q : Row) → Width n Q → SameSum (quarter_last P Q) (quarter_first P (quarter P Q))
  exchange-any_angle Q w = go (anticommute P Q) refl
    where
      phases-out : (A B : Row) → scaled MinusI A ★ scaled MinusI B ≡ scaled MinusOne (A ★ B)
      phases-out A B = scaled-left MinusI A (scaled MinusI B) ∙ ap (scaled MinusI) (scaled-right MinusI A B) ∙ scaled-scaled MinusI MinusI (A ★ B)

      -- P Q P is -Q
      around : anticommute P Q ≡ true → (P ★ Q) ★ P ≡ scaled MinusOne Q
      around h = ap (λ S. S ★ P) (exchange-as P Q true h) ∙ scaled-left MinusOne (Q ★ P) P
          ∙ ap (scaled MinusOne) (assoc Q P P ∙ ap (λ S. Q ★ S) (square n P wP r) ∙ identity-right n Q w)

      go : (b : Bool) → anticommute P Q ≡ b → SameSum (quarter_last P Q) (quarter_first P (cond b (scaled MinusI (P ★ Q)) Q))
      go true h = inr (
        sym (phases-out (scaled MinusI (P ★ Q)) P ∙ ap (scaled MinusOne) (scaled-left MinusI (P ★ Q) P ∙ ap (scaled MinusI) (around h))
            ∙ row_eq refl (law₁ turns phase (λ p. MinusOne ⊕ (MinusI ⊕ (MinusOne ⊕ p))) (λ p. MinusI ⊕ p) tt Q.phase)),
        phases-out P Q ∙ sym (scaled-scaled MinusI MinusI (P ★ Q)),
      )
      go false h = inl (refl, phases-out P Q ∙ ap (scaled MinusOne) (exchange-as P Q false h) ∙ sym (phases-out Q P))

  sum-sym : (A B C D : Row) → ((A ≡ C) × (B ≡ D)) ⊎ ((A ≡ D) × (B ≡ C)) → ((C ≡ A) × (D ≡ B)) ⊎ ((C ≡ B) × (D ≡ A))
  sum-sym A B C D (inl e) = inl (sym e.0, sym e.1)
  sum-sym A B C D (inr e) = inr (sym e.1, sym e.0)

  -- the other way: the quarter turn that comes first moves behind the rotation
  pub exchange-back : (Q : Row) → Width n Q → SameSum (quarter_first P Q) (quarter_last P (rotate 6 P Q))
  exchange-back Q w = sum-sym _ _ _ _ (rw (full Q w) at (exchange-any_angle (rotate 6 P Q) ((hom-quarters 3).width Q w)))

-- ---- a homomorphism carries rotations

module _ (n : ℕ) (f : Row → Row) (F : Hom n f) where
  pub hom-anticommute : (P Q : Row) → Width n P → Width n Q → anticommute (f P) (f Q) ≡ anticommute P Q
  hom-anticommute P Q wP wQ = same (anticommute (f P) (f Q)) (anticommute P Q) (sym signs)
    where
      signs : scaled (minus_if (anticommute P Q)) (f Q ★ f P) ≡ scaled (minus_if (anticommute (f P) (f Q))) (f Q ★ f P)
      signs = ap (scaled (minus_if (anticommute P Q))) (sym (F.times Q P wQ wP)) ∙ sym (F.scales (minus_if (anticommute P Q)) (Q ★ P) (width-★ n Q P wQ wP))
          ∙ ap f (sym (exchange P Q)) ∙ F.times P Q wP wQ ∙ exchange (f P) (f Q)

      same : (a b : Bool) → scaled (minus_if a) (f Q ★ f P) ≡ scaled (minus_if b) (f Q ★ f P) → a ≡ b
      same true true e = refl
      same true false e = absurd (no_minus _ (sym (ap (λ R. R.phase) e)))
      same false true e = absurd (no_minus _ (ap (λ R. R.phase) e))
      same false false e = refl

  pub carries-quarter : (P Q : Row) → Width n P → Width n Q → f (quarter P Q) ≡ quarter (f P) (f Q)
  carries-quarter P Q wP wQ = go (anticommute P Q) ∙ ap (λ b. cond b (scaled MinusI (f P ★ f Q)) (f Q)) (sym (hom-anticommute P Q wP wQ))
    where
      go : (b : Bool) → f (cond b (scaled MinusI (P ★ Q)) Q) ≡ cond b (scaled MinusI (f P ★ f Q)) (f Q)
      go true = F.scales MinusI (P ★ Q) (width-★ n P Q wP wQ) ∙ ap (scaled MinusI) (F.times P Q wP wQ)
      go false = refl

  pub carries-quarters : (m : ℕ) (P Q : Row) → Width n P → real P.phase ≡ true → Width n Q → f (quarters m P Q) ≡ quarters m (f P) (f Q)
  carries-quarters zero P Q wP r wQ = refl
  carries-quarters (suc m) P Q wP r wQ =
      carries-quarter P (quarters m P Q) wP ((hom-quarters n P wP r m).width Q wQ) ∙ ap (quarter (f P)) (carries-quarters m P Q wP r wQ)
