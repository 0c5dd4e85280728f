-- Sums below a bound.
use mathlib.Core.Path.{◌≡◌, refl, ap, ap₂}
use Prim.Native.Nat.{ℕ, zero, suc, ◌+◌, ◌≤◌, ◌<◌}
use native.Mathlib.Nat.{not-suc-le-zero}
use native.Mathlib.Omega.{arith}
use Rattle.arena.specs.Code.WalkWords.{sum}
use Rattle.arena.proofs.Walk.Outcomes.{Order, below, same, above, order}

pub sum-cong : (k : ℕ) (f g : ℕ → ℕ) → ((i : ℕ) → i < k → f i ≡ g i) → sum k f ≡ sum k g
sum-cong zero f g h = refl
sum-cong (suc k) f g h = ap₂ ◌+◌ (sum-cong k f g (λ i l. h i (omega arith))) (h k (omega arith))

pub sum-zero : (k : ℕ) (f : ℕ → ℕ) → ((i : ℕ) → i < k → f i ≡ 0) → sum k f ≡ 0
sum-zero zero f h = refl
sum-zero (suc k) f h = omega (arith, sum-zero k f (λ i l. h i (omega arith)), h k (omega arith))

pub sum-at : (k : ℕ) (f : ℕ → ℕ) (i : ℕ) → i < k → f i ≤ sum k f
sum-at zero f i h = absurd (not-suc-le-zero h)
sum-at (suc k) f i h = go (order i k) (sum-at k f i)
  where
    go : Order i k → (i < k → f i ≤ sum k f) → f i ≤ sum k f + f k
    go (below l) ih = omega (arith, ih l)
    go (same e) ih = omega (arith, ap f e)
    go (above l) ih = absurd (omega arith)

-- two functions that differ at i only
pub sum-change : (k : ℕ) (f g : ℕ → ℕ) (i : ℕ) → i < k → ((j : ℕ) → (j ≡ i → ⊥) → f j ≡ g j) → sum k f + g i ≡ sum k g + f i
sum-change zero f g i h e = absurd (not-suc-le-zero h)
sum-change (suc k) f g i h e = go (order i k) (λ l. sum-change k f g i l e)
  where
    go : Order i k → (i < k → sum k f + g i ≡ sum k g + f i) → sum k f + f k + g i ≡ sum k g + g k + f i
    go (below l) ih = omega (arith, ih l, e k (λ q. omega arith))
    go (same q) ih = omega (arith, ap f q, ap g q, sum-cong k f g (λ j l. e j (λ p. omega arith)))
    go (above l) ih = absurd (omega arith)
