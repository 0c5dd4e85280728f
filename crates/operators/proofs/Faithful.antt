-- Different rows are different matrices.
use mathlib.Core.Path.{◌≡◌, refl, ap, ap₂, sym, ◌∙◌}
use mathlib.Core.Bool.{Bool, true, false, cond}
use mathlib.Core.List.{List, [], ◌∷◌}
use Prim.Native.Nat.{ℕ, zero, suc, ◌<◌}
use native.Mathlib.Omega.{arith}
use lib.Dec.{eqb}
use lib.ListN.{length}
use Rattle.pauli.specs.Letters.{◌⊕◌, phase_number, power}
use Rattle.pauli.specs.Rows.{Row, Width}
use Rattle.pauli.proofs.Finite.{turns as all_phases, phase, letter, law₁, power-number, ⊕-assoc, ⊕-one}
use Rattle.pauli.proofs.Rows.{row_eq}
use Rattle.operators.specs.Types.{Phase, One, PlusI, MinusOne, MinusI, Pauli, I, X, Y, Z}
use Rattle.operators.specs.Model.{Scalars, BitString, phased, flip_by, entry_of, flip_all, entry_all, same_bits, ket}
use Rattle.operators.proofs.Model.{phased-none, matrices}
use Rattle.operators.proofs.BitStrings.{same_sound, same_self}

-- scalars in which the powers of i and nothing are told apart
pub record Telling (S : Scalars) : Type 0 where
  pub one : S.R
  pub tell : S.R → ℕ
  pub tells : (p : Phase) → tell (phased S p one) ≡ phase_number p
  pub tells_none : tell S.none ≡ 4

-- a letter from where it flips and its two entries, with a phase in front
abbrev letter_by : Bool → Phase → Phase → Pauli
letter_by f p q = cond f (cond (eqb (phase_number p) (phase_number q)) X Y) (cond (eqb (phase_number p) (phase_number q)) I Z)

letter-back : (a : Pauli) (p : Phase) → letter_by (flip_by a false) (p ⊕ entry_of a false) (p ⊕ entry_of a true) ≡ a
letter-back I = law₁ all_phases letter (λ p. letter_by false (p ⊕ One) (p ⊕ One)) (λ p. I) tt
letter-back X = law₁ all_phases letter (λ p. letter_by true (p ⊕ One) (p ⊕ One)) (λ p. X) tt
letter-back Y = law₁ all_phases letter (λ p. letter_by true (p ⊕ MinusI) (p ⊕ PlusI)) (λ p. Y) tt
letter-back Z = law₁ all_phases letter (λ p. letter_by false (p ⊕ One) (p ⊕ MinusOne)) (λ p. Z) tt

abbrev undo : Pauli → Phase
undo I = One
undo X = One
undo Y = PlusI
undo Z = One

phase-back : (a : Pauli) (p : Phase) → p ⊕ entry_of a false ⊕ undo a ≡ p
phase-back I = law₁ all_phases phase (λ p. p ⊕ One ⊕ One) (λ p. p) tt
phase-back X = law₁ all_phases phase (λ p. p ⊕ One ⊕ One) (λ p. p) tt
phase-back Y = law₁ all_phases phase (λ p. p ⊕ MinusI ⊕ PlusI) (λ p. p) tt
phase-back Z = law₁ all_phases phase (λ p. p ⊕ One ⊕ One) (λ p. p) tt

zeros : (n : ℕ) → BitString n
zeros zero = tt
zeros (suc n) = (false, zeros n)

apart : (n : ℕ) (us vs : List Pauli) → length us ≡ n → length vs ≡ n → (p q : Phase) → ((s : BitString n) → p ⊕ entry_all n us s ≡ q ⊕ entry_all n vs s) → ((s : BitString n) → flip_all n us s ≡ flip_all n vs s)
    → (us ≡ vs) × (p ≡ q)
apart zero [] [] u v p q h k = (refl, sym (⊕-one p) ∙ h tt ∙ ⊕-one q)
apart zero [] (b ∷ vs) u v p q h k = absurd (omega arith)
apart zero (a ∷ us) vs u v p q h k = absurd (omega arith)
apart (suc n) [] vs u v p q h k = absurd (omega arith)
apart (suc n) (a ∷ us) [] u v p q h k = absurd (omega arith)
apart (suc n) (a ∷ us) (b ∷ vs) u v p q h k =
    go (λ x. apart n us vs (omega arith) (omega arith) (p ⊕ entry_of a x) (q ⊕ entry_of b x)
    (λ s. ⊕-assoc p (entry_of a x) (entry_all n us s) ∙ h (x, s) ∙ sym (⊕-assoc q (entry_of b x) (entry_all n vs s))) (λ s. ap (λ t. t.1) (k (x, s))))
  where
    go : ((x : Bool) → (us ≡ vs) × (p ⊕ entry_of a x ≡ q ⊕ entry_of b x)) → (a ∷ us ≡ b ∷ vs) × (p ≡ q)
    go ih =
        let f : flip_by a false ≡ flip_by b false = ap (λ t. t.0) (k (false, zeros n)) in
        let e : a ≡ b = sym (letter-back a p) ∙ ap₂ (λ g r. letter_by g r (p ⊕ entry_of a true)) f (ih false).1 ∙ ap (λ r. letter_by (flip_by b false) (q ⊕ entry_of b false) r) (ih true).1 ∙ letter-back b q in
        (ap₂ ◌∷◌ e (ih false).0, sym (phase-back a p) ∙ ap₂ (λ r c. r ⊕ undo c) (ih false).1 e ∙ phase-back b q)

small : (p : Phase) → phase_number p < 4
small One = omega arith
small PlusI = omega arith
small MinusOne = omega arith
small MinusI = omega arith

module _ (S : Scalars) (T : Telling S) (n : ℕ) (P Q : Row) (wP : Width n P) (wQ : Width n Q) (e : (matrices S n).read P ≡ (matrices S n).read Q) where
  -- at every string the two rows have the same entry in the same column
  column : (s : BitString n) → (P.phase ⊕ entry_all n P.letters s ≡ Q.phase ⊕ entry_all n Q.letters s) × (flip_all n P.letters s ≡ flip_all n Q.letters s)
  column s = go (same_bits n (flip_all n Q.letters s) (flip_all n P.letters s)) refl
      (sym (T.tells (P.phase ⊕ entry_all n P.letters s)) ∙ ap (λ b. T.tell (phased S (P.phase ⊕ entry_all n P.letters s) (cond b T.one S.none))) (sym (same_self n (flip_all n P.letters s)))
      ∙ ap (λ o. T.tell (o.act (ket S T.one n (flip_all n P.letters s)) s)) e)
    where
      go : (b : Bool) → same_bits n (flip_all n Q.letters s) (flip_all n P.letters s) ≡ b
          → phase_number (P.phase ⊕ entry_all n P.letters s) ≡ T.tell (phased S (Q.phase ⊕ entry_all n Q.letters s) (cond (same_bits n (flip_all n Q.letters s) (flip_all n P.letters s)) T.one S.none))
          → (P.phase ⊕ entry_all n P.letters s ≡ Q.phase ⊕ entry_all n Q.letters s) × (flip_all n P.letters s ≡ flip_all n Q.letters s)
      go true f g =
          let h : phase_number (P.phase ⊕ entry_all n P.letters s) ≡ phase_number (Q.phase ⊕ entry_all n Q.letters s) =
          g ∙ ap (λ b. T.tell (phased S (Q.phase ⊕ entry_all n Q.letters s) (cond b T.one S.none))) f ∙ T.tells (Q.phase ⊕ entry_all n Q.letters s) in
          (sym (power-number (P.phase ⊕ entry_all n P.letters s)) ∙ ap power h ∙ power-number (Q.phase ⊕ entry_all n Q.letters s), sym (same_sound n (flip_all n Q.letters s) (flip_all n P.letters s) f))
      go false f g =
          let h : phase_number (P.phase ⊕ entry_all n P.letters s) ≡ 4 =
          g ∙ ap (λ b. T.tell (phased S (Q.phase ⊕ entry_all n Q.letters s) (cond b T.one S.none))) f ∙ ap T.tell (phased-none S (Q.phase ⊕ entry_all n Q.letters s)) ∙ T.tells_none in
          absurd (omega (arith, small (P.phase ⊕ entry_all n P.letters s)))

  pub faithful : P ≡ Q
  faithful = let h = apart n P.letters Q.letters wP wQ P.phase Q.phase (λ s. (column s).0) (λ s. (column s).1) in row_eq h.0 h.1
