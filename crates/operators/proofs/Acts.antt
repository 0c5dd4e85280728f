-- What the matrices of the gates do to amplitudes, on any qubit.
use mathlib.Core.Path.{◌≡◌, refl, ap, ap₂, sym, ◌∙◌}
use mathlib.Core.Logic.{◌≢◌}
use mathlib.Core.Bool.{Bool, true, false, cond, beq}
use Prim.Native.Nat.{ℕ, zero, suc, ◌<◌}
use native.Mathlib.Omega.{arith}
use lib.ListN.{replicate, set}
use Rattle.pauli.specs.Letters.{◌⊕◌}
use Rattle.pauli.specs.Bits.{◌xor◌}
use Rattle.pauli.specs.Rows.{single, scaled}
use Rattle.pauli.proofs.Finite.{turns as all_phases, phase, law₁}
use Rattle.operators.specs.Types.{One, PlusI, MinusOne, MinusI, Pauli, I, X, Y, Z}
use Rattle.operators.specs.Operators.{Operators}
use Rattle.operators.specs.Textbook.{seen, x_of, y_of, z_of, if_one, hadamard_of, sx_of, swap_of}
use Rattle.operators.specs.Model.{Scalars, BitString, Amplitudes, Linear, phased, flip_by, entry_of, flip_all, entry_all, bit_at, change_at, flip_at, sign_of, over_root_two}
use Rattle.operators.proofs.BitStrings.{bit_other}
use Rattle.operators.proofs.Model.{flip_none, entry_none, phased-phased, swapped, matrices, four}

-- ---- one letter

flip-single : (n q : ℕ) (a : Pauli) (s : BitString n) → flip_all n (set (replicate n I) q a) s ≡ change_at n q (flip_by a) s
flip-single zero q a s = refl
flip-single (suc n) zero a s = ap (λ t. (flip_by a s.0, t)) (flip_none n s.1)
flip-single (suc n) (suc q) a s = ap (λ t. (s.0, t)) (flip-single n q a s.1)

entry-single : (n q : ℕ) (a : Pauli) → q < n → (s : BitString n) → entry_all n (set (replicate n I) q a) s ≡ entry_of a (bit_at n q s)
entry-single zero q a h s = absurd (omega arith)
entry-single (suc n) zero a h s = ap (λ p. entry_of a s.0 ⊕ p) (entry_none n s.1) ∙ law₁ all_phases phase (λ p. p ⊕ One) (λ p. p) tt (entry_of a s.0)
entry-single (suc n) (suc q) a h s = entry-single n q a (omega arith) s.1

unchanged : (n q : ℕ) (s : BitString n) → change_at n q (λ b. b) s ≡ s
unchanged zero q s = refl
unchanged (suc n) zero s = refl
unchanged (suc n) (suc q) s = ap (λ t. (s.0, t)) (unchanged n q s.1)

module _ (S : Scalars) (n : ℕ) where
  abbrev M : Operators n
  M = matrices S n

  -- ---- X, Y, Z: amplitudes

  pub x_acts : (q : ℕ) → q < n → (v : Amplitudes S n) (s : BitString n) → (x_of M q).act v s ≡ v (flip_at n q s)
  x_acts q h v s = ap₂ (λ p t. phased S p (v t)) (entry-single n q X h s) (flip-single n q X s)

  pub y_acts : (q : ℕ) → q < n → (v : Amplitudes S n) (s : BitString n) → (y_of M q).act v s ≡ phased S (cond (bit_at n q s) PlusI MinusI) (v (flip_at n q s))
  y_acts q h v s = ap₂ (λ p t. phased S p (v t)) (entry-single n q Y h s ∙ go (bit_at n q s)) (flip-single n q Y s)
    where
      go : (b : Bool) → entry_of Y b ≡ cond b PlusI MinusI
      go true = refl
      go false = refl

  z_entry : (b : Bool) → entry_of Z b ≡ sign_of b
  z_entry true = refl
  z_entry false = refl

  pub z_acts : (q : ℕ) → q < n → (v : Amplitudes S n) (s : BitString n) → (z_of M q).act v s ≡ phased S (sign_of (bit_at n q s)) (v s)
  z_acts q h v s = ap₂ (λ p t. phased S p (v t)) (entry-single n q Z h s ∙ z_entry (bit_at n q s)) (flip-single n q Z s ∙ unchanged n q s)

  minus_z_acts : (q : ℕ) → q < n → (v : Amplitudes S n) (s : BitString n) → (M.read (scaled MinusOne (single n q Z))).act v s ≡ phased S (MinusOne ⊕ sign_of (bit_at n q s)) (v s)
  minus_z_acts q h v s = ap₂ (λ p t. phased S (MinusOne ⊕ p) (v t)) (entry-single n q Z h s ∙ z_entry (bit_at n q s)) (flip-single n q Z s ∙ unchanged n q s)

  -- h: (v(flipped) ± v) / √2
  pub h_acts : (q : ℕ) → q < n → (v : Amplitudes S n) (s : BitString n) → (hadamard_of M q).act v s ≡ over_root_two S (S.plus (v (flip_at n q s)) (phased S (sign_of (bit_at n q s)) (v s)))
  h_acts q h v s = ap (over_root_two S) (ap₂ S.plus (x_acts q h v s) (z_acts q h v s))

  -- ---- controls and outcomes

  whole_half : (r : S.R) → S.half (S.plus r r) ≡ r
  whole_half r = S.half_plus r r ∙ S.halves r

  nothing : (r : S.R) → S.half (S.plus r (four S r)) ≡ S.none
  nothing r = ap S.half (S.minus r) ∙ S.half_none

  none_plus : (r : S.R) → S.plus S.none r ≡ r
  none_plus r = S.plus_comm S.none r ∙ S.plus_none r

  pub outcome_acts : (q : ℕ) → q < n → (x : Bool) (v : Amplitudes S n) (s : BitString n) → (seen M x (single n q Z)).act v s ≡ cond (beq (bit_at n q s) x) (v s) S.none
  outcome_acts q h true v s = ap (λ r. S.half (S.plus (v s) r)) (minus_z_acts q h v s) ∙ go (bit_at n q s)
    where
      go : (b : Bool) → S.half (S.plus (v s) (phased S (MinusOne ⊕ sign_of b) (v s))) ≡ cond (beq b true) (v s) S.none
      go true = whole_half (v s)
      go false = nothing (v s)
  outcome_acts q h false v s = ap (λ r. S.half (S.plus (v s) r)) (z_acts q h v s) ∙ go (bit_at n q s)
    where
      go : (b : Bool) → S.half (S.plus (v s) (phased S (sign_of b) (v s))) ≡ cond (beq b false) (v s) S.none
      go true = nothing (v s)
      go false = whole_half (v s)

  -- t where the bit is 1: so s, t, cnot, cz, ccx, ccz and cy are what their names say
  pub if_acts : (q : ℕ) → q < n → (t : Linear S n) (v : Amplitudes S n) (s : BitString n) → (if_one M q t).act v s ≡ cond (bit_at n q s) (t.act v s) (v s)
  if_acts q h t v s = ap₂ S.plus (outcome_acts q h false v s) (outcome_acts q h true (t.act v) s) ∙ go (bit_at n q s)
    where
      go : (b : Bool) → S.plus (cond (beq b false) (v s) S.none) (cond (beq b true) (t.act v s) S.none) ≡ cond b (t.act v s) (v s)
      go true = none_plus (t.act v s)
      go false = S.plus_none (v s)

  -- sx: ((1 + i) v + (1 - i) v(flipped)) / 2
  pub sx_acts : (q : ℕ) → q < n → (v : Amplitudes S n) (s : BitString n)
      → (sx_of M q).act v s ≡ S.half (S.plus (S.plus (v s) (phased S PlusI (v s))) (S.plus (v (flip_at n q s)) (phased S MinusI (v (flip_at n q s)))))
  sx_acts q h v s = ap (λ r. S.half (S.plus (S.plus (v s) (phased S PlusI (v s))) (S.plus r (phased S MinusI r)))) (x_acts q h v s)

  -- swap: where the two bits differ, both are flipped
  pub swap_acts : (a b : ℕ) → a < n → b < n → a ≢ b → (v : Amplitudes S n) (s : BitString n)
      → (swap_of M a b).act v s ≡ cond (bit_at n a s xor bit_at n b s) (v (flip_at n b (flip_at n a s))) (v s)
  swap_acts a b ha hb ne v s =
      ap₂ (λ r t. S.half (S.plus (S.plus (v s) r) t)) (x_acts a ha ((x_of M b).act v) s ∙ x_acts b hb v (flip_at n a s))
      (ap₂ S.plus
      (y_acts a ha ((y_of M b).act v) s ∙ ap (phased S (cond (bit_at n a s) PlusI MinusI)) (y_acts b hb v (flip_at n a s) ∙ ap (λ c. phased S (cond c PlusI MinusI) w) (bit_other n a b ne s))
      ∙ sym (phased-phased S (cond (bit_at n a s) PlusI MinusI) (cond (bit_at n b s) PlusI MinusI) w))
      (z_acts a ha ((z_of M b).act v) s ∙ ap (phased S (sign_of (bit_at n a s))) (z_acts b hb v s) ∙ sym (phased-phased S (sign_of (bit_at n a s)) (sign_of (bit_at n b s)) (v s))))
      ∙ go (bit_at n a s) (bit_at n b s)
    where
      w : S.R
      w = v (flip_at n b (flip_at n a s))

      -- twice r and nothing of t
      twice : (r t : S.R) → S.half (S.plus (S.plus r t) (S.plus (four S t) r)) ≡ r
      twice r t =
          ap S.half (ap (S.plus (S.plus r t)) (S.plus_comm (four S t) r) ∙ swapped S r t r (four S t) ∙ ap (S.plus (S.plus r r)) (S.minus t) ∙ S.plus_none (S.plus r r)) ∙ whole_half r

      other : (r t : S.R) → S.half (S.plus (S.plus r t) (S.plus t (four S r))) ≡ t
      other r t = ap S.half (ap₂ S.plus (S.plus_comm r t) (S.plus_comm t (four S r))) ∙ twice t r

      go : (x y : Bool) → S.half (S.plus (S.plus (v s) w) (S.plus (phased S (cond x PlusI MinusI ⊕ cond y PlusI MinusI) w) (phased S (sign_of x ⊕ sign_of y) (v s)))) ≡ cond (x xor y) w (v s)
      go true true = twice (v s) w
      go true false = other (v s) w
      go false true = other (v s) w
      go false false = twice (v s) w
