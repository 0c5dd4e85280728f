-- The Euclidean remainder by 8, and what `%` by 8 leaves of a signed number in the bits that hold it.
use Prim.Native.Nat.{ℕ, zero, suc, ◌+◌, ◌*◌, ◌-◌, ◌/◌, ◌%◌, ◌<◌, ◌^◌}
use mathlib.Core.Path.{◌≡◌, refl, sym, ap, ◌∙◌}
use mathlib.Core.Bool.{true, false, true≢false}
use native.Mathlib.Omega.{arith}
use borrow.Author.Tests.{lt-ltb, le-ltb}
use lib.IntN.{ℤ, pos, negsuc, neg_ℤ, ◌+ℤ◌, ◌*ℤ◌}
use lib.Signed.{lt_z, rem_z, quot_z, mag, mag_rem}
use mir.Syntax.{w64}
use mir.Val.{SFits, to_z, of_z}
use mir.ValLaws.{to_z-of_z}
use Rattle.pauli.specs.Angle.{remainder8}

-- ---- below 8, and a multiple of 8 away

pub below-8 : (z : ℤ) → remainder8 z < 8
below-8 (pos n) = omega arith
below-8 (negsuc n) = omega arith

eight_more : (m : ℕ) → suc m * 8 ≡ suc (m * 8 + 7)
eight_more m = omega arith

pub multiple_of-8 : (z : ℤ) → (k : ℤ) × (k *ℤ pos 8 +ℤ pos (remainder8 z) ≡ z)
multiple_of-8 (pos n) = (pos (n / 8), ap pos (omega arith))
multiple_of-8 (negsuc n) =
    (negsuc (n / 8), rw (eight_more (n / 8), lt-ltb (7 - n % 8) (suc (n / 8 * 8 + 7)) (omega arith)) (ap negsuc (omega arith)))

-- ---- the remainder as the code holds it

abbrev pub held : ℤ → ℤ
held z = to_z w64 (of_z w64 (rem_z (to_z w64 (of_z w64 z)) (pos 8)))

held-is : (z : ℤ) → SFits w64 z → held z ≡ rem_z z (pos 8)
held-is z h =
    ap (λ (y : ℤ). to_z w64 (of_z w64 (rem_z y (pos 8)))) (to_z-of_z w64 z h)
    ∙ to_z-of_z w64 (rem_z z (pos 8)) (record { sfits = omega (arith, mag_rem z (pos 8), h.sfits) })

quotient_small : (m : ℕ) → m < 2 ^ 63 → mag (neg_ℤ (pos m)) < 2 ^ 63
quotient_small zero h = omega arith
quotient_small (suc m) h = omega arith

pub quotient_fits : (z : ℤ) → SFits w64 z → SFits w64 (quot_z z (pos 8))
quotient_fits (pos n) h = record { sfits = omega (arith, h.sfits) }
quotient_fits (negsuc n) h = record { sfits = quotient_small (suc n / 8) (omega (arith, h.sfits)) }

-- below zero, 8 more is the Euclidean remainder
plus-8 : (m a : ℕ) → m ≡ suc a % 8 → lt_z (neg_ℤ (pos m)) (pos 0) ≡ true → neg_ℤ (pos m) +ℤ pos 8 ≡ pos (7 - a % 8)
plus-8 zero a e t = absurd (true≢false (sym t ∙ le-ltb 0 0 (omega arith)))
plus-8 (suc k) a e t = rw (le-ltb 8 (suc k) (omega arith)) (ap pos (omega arith))

negative : (z : ℤ) → lt_z (rem_z z (pos 8)) (pos 0) ≡ true → rem_z z (pos 8) +ℤ pos 8 ≡ pos (remainder8 z)
negative (pos n) t = absurd (true≢false (sym t ∙ le-ltb (n % 8) 0 (omega arith)))
negative (negsuc n) t = plus-8 (suc n % 8) n refl t

-- else it is the Euclidean remainder already
plus-0 : (m a : ℕ) → m ≡ suc a % 8 → lt_z (neg_ℤ (pos m)) (pos 0) ≡ false → neg_ℤ (pos m) ≡ pos (7 - a % 8)
plus-0 zero a e t = ap pos (omega arith)
plus-0 (suc k) a e t = absurd (true≢false t)

not_negative : (z : ℤ) → lt_z (rem_z z (pos 8)) (pos 0) ≡ false → rem_z z (pos 8) ≡ pos (remainder8 z)
not_negative (pos n) t = refl
not_negative (negsuc n) t = plus-0 (suc n % 8) n refl t

module _ (z : ℤ) (h : SFits w64 z) where
  pub sum_is : lt_z (held z) (pos 0) ≡ true → held z +ℤ pos 8 ≡ pos (remainder8 z)
  sum_is t = rw (held-is z h) (negative z (rw (held-is z h) at t))

  pub rest_is : lt_z (held z) (pos 0) ≡ false → held z ≡ pos (remainder8 z)
  rest_is t = rw (held-is z h) (not_negative z (rw (held-is z h) at t))

  pub remainder_fits : SFits w64 (pos (remainder8 z))
  remainder_fits = record { sfits = omega (arith, below-8 z) }

  pub bits_are : lt_z (held z) (pos 0) ≡ true → to_z w64 (of_z w64 (held z +ℤ pos 8)) ≡ pos (remainder8 z)
  bits_are t = rw (sum_is t) (to_z-of_z w64 (pos (remainder8 z)) remainder_fits)
