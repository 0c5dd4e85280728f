-- What the matrices of the gates do to the basis states |t⟩.
use mathlib.Core.Path.{◌≡◌, refl, ap, ap₂, sym, ◌∙◌}
use mathlib.Core.Logic.{◌≢◌}
use mathlib.Core.Bool.{Bool, true, false, true≢false, not, cond, ◌&&◌, beq}
use Prim.Native.Nat.{ℕ, zero, suc, ◌<◌}
use Rattle.pauli.specs.Bits.{◌xor◌}
use Rattle.pauli.specs.Rows.{single}
use Rattle.operators.specs.Types.{Phase, One, PlusI, MinusI, Z}
use Rattle.operators.specs.Operators.{Operators, root_to}
use Rattle.operators.specs.Textbook.{seen, x_of, y_of, z_of, if_one, hadamard_of, sx_of, swap_of}
use Rattle.operators.specs.Model.{Scalars, BitString, Amplitudes, Linear, phased, bit_at, flip_at, same_bits, sign_of, over_root_two, ket}
use Rattle.operators.proofs.BitStrings.{flip_back, same_sound, bit_other, bit_flipped}
use Rattle.operators.proofs.Model.{phased-none, matrices}
use Rattle.operators.proofs.Acts.{x_acts, y_acts, z_acts, outcome_acts, if_acts, sx_acts, swap_acts}

module _ (S : Scalars) (one : S.R) (n : ℕ) where
  abbrev M : Operators n
  M = matrices S n

  abbrev basis : BitString n → Amplitudes S n
  basis t = ket S one n t

  -- a phase in front of |t⟩ counts at t only
  at-ket : (f : BitString n → Phase) (t s : BitString n) → phased S (f s) (basis t s) ≡ phased S (f t) (basis t s)
  at-ket f t s = go (same_bits n s t) refl
    where
      go : (b : Bool) → same_bits n s t ≡ b → phased S (f s) (cond b one S.none) ≡ phased S (f t) (cond b one S.none)
      go true e = ap (λ u. phased S (f u) one) (same_sound n s t e)
      go false e = phased-none S (f s) ∙ sym (phased-none S (f t))

  flipped : (q : ℕ) (t s : BitString n) → basis t (flip_at n q s) ≡ basis (flip_at n q t) s
  flipped q t s = ap (λ b. cond b one S.none) (flip_back n q s t)

  -- nothing where a bit differs
  ket-other : (q : ℕ) (t s : BitString n) → bit_at n q s ≢ bit_at n q t → basis t s ≡ S.none
  ket-other q t s ne = go (same_bits n s t) refl
    where
      go : (b : Bool) → same_bits n s t ≡ b → cond b one S.none ≡ S.none
      go true e = absurd (ne (ap (bit_at n q) (same_sound n s t e)))
      go false e = refl

  -- ---- one qubit

  pub x-ket : (q : ℕ) → q < n → (t s : BitString n) → (x_of M q).act (basis t) s ≡ basis (flip_at n q t) s
  x-ket q h t s = x_acts S n q h (basis t) s ∙ flipped q t s

  pub y-ket : (q : ℕ) → q < n → (t s : BitString n) → (y_of M q).act (basis t) s ≡ phased S (cond (bit_at n q t) MinusI PlusI) (basis (flip_at n q t) s)
  y-ket q h t s =
      y_acts S n q h (basis t) s ∙ ap (phased S (cond (bit_at n q s) PlusI MinusI)) (flipped q t s) ∙ at-ket (λ u. cond (bit_at n q u) PlusI MinusI) (flip_at n q t) s
      ∙ ap (λ p. phased S p (basis (flip_at n q t) s)) (ap (λ b. cond b PlusI MinusI) (bit_flipped n q h t) ∙ go (bit_at n q t))
    where
      go : (b : Bool) → cond (not b) PlusI MinusI ≡ cond b MinusI PlusI
      go true = refl
      go false = refl

  pub z-ket : (q : ℕ) → q < n → (t s : BitString n) → (z_of M q).act (basis t) s ≡ phased S (sign_of (bit_at n q t)) (basis t s)
  z-ket q h t s = z_acts S n q h (basis t) s ∙ at-ket (λ u. sign_of (bit_at n q u)) t s

  pub h-ket : (q : ℕ) → q < n → (t s : BitString n)
      → (hadamard_of M q).act (basis t) s ≡ over_root_two S (S.plus (basis (flip_at n q t) s) (phased S (sign_of (bit_at n q t)) (basis t s)))
  h-ket q h t s = ap (over_root_two S) (ap₂ S.plus (x-ket q h t s) (z-ket q h t s))

  pub sx-ket : (q : ℕ) → q < n → (t s : BitString n)
      → (sx_of M q).act (basis t) s ≡ S.half (S.plus (S.plus (basis t s) (phased S PlusI (basis t s))) (S.plus (basis (flip_at n q t) s) (phased S MinusI (basis (flip_at n q t) s))))
  sx-ket q h t s = sx_acts S n q h (basis t) s ∙ ap (λ r. S.half (S.plus (S.plus (basis t s) (phased S PlusI (basis t s))) (S.plus r (phased S MinusI r)))) (flipped q t s)

  pub outcome-ket : (q : ℕ) → q < n → (x : Bool) (t s : BitString n) → (seen M x (single n q Z)).act (basis t) s ≡ cond (beq (bit_at n q t) x) (basis t s) S.none
  outcome-ket q h x t s = outcome_acts S n q h x (basis t) s ∙ go (same_bits n s t) refl
    where
      none : (b : Bool) → cond b S.none S.none ≡ S.none
      none true = refl
      none false = refl

      go : (b : Bool) → same_bits n s t ≡ b → cond (beq (bit_at n q s) x) (cond b one S.none) S.none ≡ cond (beq (bit_at n q t) x) (cond b one S.none) S.none
      go true e = ap (λ u. cond (beq (bit_at n q u) x) one S.none) (same_sound n s t e)
      go false e = none (beq (bit_at n q s) x) ∙ sym (none (beq (bit_at n q t) x))

  -- ---- controls

  -- what leaves a control as it is in t acts where that is 1
  if-ket : (q : ℕ) → q < n → (o : Linear S n) (t : BitString n) → ((u : BitString n) → bit_at n q u ≢ bit_at n q t → o.act (basis t) u ≡ S.none)
      → (s : BitString n) → (if_one M q o).act (basis t) s ≡ cond (bit_at n q t) (o.act (basis t) s) (basis t s)
  if-ket q h o t k s = if_acts S n q h o (basis t) s ∙ go (bit_at n q s) (bit_at n q t) refl refl
    where
      differ : bit_at n q s ≢ bit_at n q t → basis t s ≡ o.act (basis t) s
      differ ne = ket-other q t s ne ∙ sym (k s ne)

      go : (x y : Bool) → bit_at n q s ≡ x → bit_at n q t ≡ y → cond x (o.act (basis t) s) (basis t s) ≡ cond y (o.act (basis t) s) (basis t s)
      go true true e f = refl
      go true false e f = sym (differ (λ d. true≢false (sym e ∙ d ∙ f)))
      go false true e f = differ (λ d. true≢false (sym f ∙ sym d ∙ e))
      go false false e f = refl

  -- the root to any power: s, sdg, t, tdg
  pub root-ket : (k q : ℕ) → q < n → (t s : BitString n) → (if_one M q (root_to M k)).act (basis t) s ≡ cond (bit_at n q t) ((root_to M k).act (basis t) s) (basis t s)
  root-ket k q h t s = if-ket q h (root_to M k) t (λ u ne. at k u ∙ ap (times k) (ket-other q t u ne) ∙ none k) s
    where
      times : ℕ → S.R → S.R
      times zero r = r
      times (suc j) r = S.root (times j r)

      at : (j : ℕ) (u : BitString n) → (root_to M j).act (basis t) u ≡ times j (basis t u)
      at zero u = refl
      at (suc j) u = ap S.root (at j u)

      none : (j : ℕ) → times j S.none ≡ S.none
      none zero = refl
      none (suc j) = ap S.root (none j) ∙ S.root_none

  as-ket : (b : Bool) (t u s : BitString n) → cond b (basis u s) (basis t s) ≡ basis (cond b u t) s
  as-ket true t u s = refl
  as-ket false t u s = refl

  as_phase : (b : Bool) (p : Phase) (r : S.R) → cond b (phased S p r) r ≡ phased S (cond b p One) r
  as_phase true p r = refl
  as_phase false p r = refl

  module _ (a b : ℕ) (ha : a < n) (hb : b < n) (ne : a ≢ b) where
    -- flipping b leaves a
    other_flipped : (t u : BitString n) → bit_at n a u ≢ bit_at n a t → basis (flip_at n b t) u ≡ S.none
    other_flipped t u d = ket-other a (flip_at n b t) u (λ e. d (e ∙ bit_other n b a (λ f. ne (sym f)) t))

    pub cnot-ket : (t s : BitString n) → (if_one M a (x_of M b)).act (basis t) s ≡ basis (cond (bit_at n a t) (flip_at n b t) t) s
    cnot-ket t s =
        if-ket a ha (x_of M b) t (λ u d. x-ket b hb t u ∙ other_flipped t u d) s
        ∙ ap (λ r. cond (bit_at n a t) r (basis t s)) (x-ket b hb t s) ∙ as-ket (bit_at n a t) t (flip_at n b t) s

    pub cz-ket : (t s : BitString n) → (if_one M a (z_of M b)).act (basis t) s ≡ phased S (cond (bit_at n a t) (sign_of (bit_at n b t)) One) (basis t s)
    cz-ket t s =
        if-ket a ha (z_of M b) t (λ u d. z-ket b hb t u ∙ ap (phased S (sign_of (bit_at n b t))) (ket-other a t u d) ∙ phased-none S (sign_of (bit_at n b t))) s
        ∙ ap (λ r. cond (bit_at n a t) r (basis t s)) (z-ket b hb t s) ∙ as_phase (bit_at n a t) (sign_of (bit_at n b t)) (basis t s)

    pub cy-ket : (t s : BitString n) → (if_one M a (y_of M b)).act (basis t) s
        ≡ phased S (cond (bit_at n a t) (cond (bit_at n b t) MinusI PlusI) One) (basis (cond (bit_at n a t) (flip_at n b t) t) s)
    cy-ket t s =
        if-ket a ha (y_of M b) t (λ u d. y-ket b hb t u ∙ ap (phased S (cond (bit_at n b t) MinusI PlusI)) (other_flipped t u d) ∙ phased-none S (cond (bit_at n b t) MinusI PlusI)) s
        ∙ ap (λ r. cond (bit_at n a t) r (basis t s)) (y-ket b hb t s) ∙ go (bit_at n a t)
      where
        go : (x : Bool) → cond x (phased S (cond (bit_at n b t) MinusI PlusI) (basis (flip_at n b t) s)) (basis t s)
            ≡ phased S (cond x (cond (bit_at n b t) MinusI PlusI) One) (basis (cond x (flip_at n b t) t) s)
        go true = refl
        go false = refl

    -- swap: the two bits exchanged, that is both flipped where they differ
    pub swap-ket : (t s : BitString n) → (swap_of M a b).act (basis t) s ≡ basis (cond (bit_at n a t xor bit_at n b t) (flip_at n a (flip_at n b t)) t) s
    swap-ket t s =
        swap_acts S n a b ha hb ne (basis t) s
        ∙ ap (λ r. cond (bit_at n a s xor bit_at n b s) r (basis t s)) (flipped b t (flip_at n a s) ∙ flipped a (flip_at n b t) s)
        ∙ go (same_bits n s u) (same_bits n s t) refl refl ∙ as-ket (bit_at n a t xor bit_at n b t) t u s
      where
        u : BitString n
        u = flip_at n a (flip_at n b t)

        both-not : (x y : Bool) → (not x xor not y) ≡ (x xor y)
        both-not true true = refl
        both-not true false = refl
        both-not false true = refl
        both-not false false = refl

        differ-flipped : (bit_at n a u xor bit_at n b u) ≡ (bit_at n a t xor bit_at n b t)
        differ-flipped =
            ap₂ ◌xor◌ (bit_flipped n a ha (flip_at n b t) ∙ ap not (bit_other n b a (λ f. ne (sym f)) t)) (bit_other n a b ne (flip_at n b t) ∙ bit_flipped n b hb t)
            ∙ both-not (bit_at n a t) (bit_at n b t)

        none : (x : Bool) → cond x S.none S.none ≡ S.none
        none true = refl
        none false = refl

        go : (x y : Bool) → same_bits n s u ≡ x → same_bits n s t ≡ y
            → cond (bit_at n a s xor bit_at n b s) (cond x one S.none) (cond y one S.none) ≡ cond (bit_at n a t xor bit_at n b t) (cond x one S.none) (cond y one S.none)
        go true y e f = ap (λ d. cond d one (cond y one S.none)) (ap (λ v. bit_at n a v xor bit_at n b v) (same_sound n s u e) ∙ differ-flipped)
        go false true e f = ap (λ v. cond (bit_at n a v xor bit_at n b v) S.none one) (same_sound n s t f)
        go false false e f = none (bit_at n a s xor bit_at n b s) ∙ sym (none (bit_at n a t xor bit_at n b t))

  module _ (a b c : ℕ) (ha : a < n) (hb : b < n) (hc : c < n) (ab : a ≢ b) (ac : a ≢ c) (bc : b ≢ c) where
    pub ccx-ket : (t s : BitString n) → (if_one M a (if_one M b (x_of M c))).act (basis t) s ≡ basis (cond (bit_at n a t && bit_at n b t) (flip_at n c t) t) s
    ccx-ket t s =
        if-ket a ha (if_one M b (x_of M c)) t (λ u d. cnot-ket b c hb hc bc t u ∙ kept (bit_at n b t) u d) s
        ∙ ap (λ r. cond (bit_at n a t) r (basis t s)) (cnot-ket b c hb hc bc t s) ∙ go (bit_at n a t) (bit_at n b t)
      where
        kept : (x : Bool) (u : BitString n) → bit_at n a u ≢ bit_at n a t → basis (cond x (flip_at n c t) t) u ≡ S.none
        kept true u d = other_flipped a c ha hc ac t u d
        kept false u d = ket-other a t u d

        go : (x y : Bool) → cond x (basis (cond y (flip_at n c t) t) s) (basis t s) ≡ basis (cond (x && y) (flip_at n c t) t) s
        go true y = refl
        go false y = refl

    pub ccz-ket : (t s : BitString n) → (if_one M a (if_one M b (z_of M c))).act (basis t) s ≡ phased S (cond (bit_at n a t && bit_at n b t) (sign_of (bit_at n c t)) One) (basis t s)
    ccz-ket t s =
        if-ket a ha (if_one M b (z_of M c)) t (λ u d. cz-ket b c hb hc bc t u ∙ ap (phased S p) (ket-other a t u d) ∙ phased-none S p) s
        ∙ ap (λ r. cond (bit_at n a t) r (basis t s)) (cz-ket b c hb hc bc t s) ∙ go (bit_at n a t) (bit_at n b t)
      where
        p : Phase
        p = cond (bit_at n b t) (sign_of (bit_at n c t)) One

        go : (x y : Bool) → cond x (phased S (cond y (sign_of (bit_at n c t)) One) (basis t s)) (basis t s) ≡ phased S (cond (x && y) (sign_of (bit_at n c t)) One) (basis t s)
        go true y = refl
        go false y = refl
