-- Stored words read past the end, tests decided early, and the larger of two numbers.
use mathlib.Core.Path.{◌≡◌, refl}
use mathlib.Core.Bool.{Bool, true, false, cond, ◌||◌, ◌&&◌}
use mathlib.Core.List.{List, [], ◌∷◌}
use Prim.Native.Nat.{ℕ, zero, suc, ◌≤◌, max}
use native.Mathlib.Omega.{arith}
use borrow.Author.Tests.{ltb-true, ltb-false}
use lib.Dec.{ltb}
use lib.ListN.{length, get_or}

pub past_end : (ws : List ℕ) (i : ℕ) → length ws ≤ i → 0 ≡ get_or ws i 0
past_end [] i h = refl
past_end (w ∷ ws) zero h = absurd (omega arith)
past_end (w ∷ ws) (suc i) h = past_end ws i (omega arith)

-- a test that is decided early
pub or_done : (a b : Bool) → a ≡ true → true ≡ (a || b)
or_done a b e = rw e

pub or_on : (a b : Bool) → a ≡ false → b ≡ (a || b)
or_on a b e = rw e

-- ---- the larger of two, where one counts

pub raise_more : (b : Bool) (k m : ℕ) → (b && ltb m k) ≡ true → k ≡ cond b (max k m) m
raise_more true k m e = omega (arith, ltb-true m k e)
raise_more false k m e = let z : ◌≡◌ {A = ℕ} 0 1 = cc in absurd (omega arith)

pub raise_same : (b : Bool) (k m : ℕ) → (b && ltb m k) ≡ false → m ≡ cond b (max k m) m
raise_same true k m e = omega (arith, ltb-false m k e)
raise_same false k m e = refl
