-- The weight of the product of a list of images, and that of up to three picked ones.
use mathlib.Core.Path.{◌≡◌, refl}
use mathlib.Core.Bool.{Bool, true, false, ◌||◌}
use mathlib.Core.List.{List, [], ◌∷◌}
use Prim.Native.Nat.{ℕ, zero, suc, ◌+◌, ◌*◌, ◌<◌}
use native.Mathlib.Omega.{arith}
use native.Mathlib.Numerals.{add-one}
use lib.Bits.{bit_or, xor_zero_l, xor_zero_r}
use lib.Count.{ones}
use lib.ListN.{length, get_or}
use Rattle.convert.specs.Code.RawPlanes.{joint_to, product_to, joined, weight_to}

-- what holds of each image of a short list
module _ (P : ℕ → Type 0) where
  pub each_of_one : (a : ℕ) → P a → (i : ℕ) → i < 1 → P (get_or (a ∷ []) i 0)
  each_of_one a x zero h = x
  each_of_one a x (suc i) h = absurd (omega arith)

  pub each_of_two : (a b : ℕ) → P a → P b → (i : ℕ) → i < 2 → P (get_or (a ∷ b ∷ []) i 0)
  each_of_two a b x y zero h = x
  each_of_two a b x y (suc zero) h = y
  each_of_two a b x y (suc (suc i)) h = absurd (omega arith)

  pub each_of_three : (a b d : ℕ) → P a → P b → P d → (i : ℕ) → i < 3 → P (get_or (a ∷ b ∷ d ∷ []) i 0)
  each_of_three a b d x y z zero h = x
  each_of_three a b d x y z (suc zero) h = y
  each_of_three a b d x y z (suc (suc zero)) h = z
  each_of_three a b d x y z (suc (suc (suc i))) h = absurd (omega arith)

-- a chain of `||`, and the same with its brackets on the right
pub or_then : (v x y : Bool) → v ≡ true → x ≡ true → v ≡ (x || y)
or_then v x y e f = rw (e, f)

pub or_else : (v x y : Bool) → v ≡ y → x ≡ false → v ≡ (x || y)
or_else v x y e f = rw (e, f)

or-assoc : (a b c : Bool) → (a || b) || c ≡ a || (b || c)
or-assoc true b c = refl
or-assoc false b c = refl

pub or_seven : (a b c d e f g : Bool) → (((((a || b) || c) || d) || e) || f) || g ≡ a || (b || (c || (d || (e || (f || g)))))
or_seven true b c d e f g = refl
or_seven false true c d e f g = refl
or_seven false false true d e f g = refl
or_seven false false false true e f g = refl
or_seven false false false false e f g = or-assoc e f g

-- one word more
pub product_more : (p : List ℕ) (l : ℕ) (is : List ℕ) (k : ℕ)
    → product_to p l is (k + 1) ≡ product_to p l is k + ones (bit_or (joint_to p (l + l) k is (length is)) (joint_to p (l + l) (l + k) is (length is)))
unfolding product_to
product_more p l is k = rw (add-one k)

-- the same weight, where the exclusive-ors are the same
pub product_weight : (p : List ℕ) (l ua ub ud a b d : ℕ) (is : List ℕ) → ((at : ℕ) → joint_to p (l + l) at is (length is) ≡ joined p ua ub ud a b d at)
    → (k : ℕ) → product_to p l is k ≡ weight_to p l ua ub ud a b d k
unfolding product_to weight_to
product_weight p l ua ub ud a b d is e zero = refl
product_weight p l ua ub ud a b d is e (suc k) = rw (product_weight p l ua ub ud a b d is e k, e k, e (l + k))

module _ (p : List ℕ) (l a b d k : ℕ) where
  pub first : product_to p l (a ∷ []) k ≡ weight_to p l 1 0 0 (a * (l + l)) (b * (l + l)) (d * (l + l)) k
  unfolding joint_to
  first = product_weight p l 1 0 0 _ _ _ (a ∷ []) (λ at. simp (xor_zero_l, xor_zero_r) refl) k

  pub second : product_to p l (b ∷ []) k ≡ weight_to p l 0 1 0 (a * (l + l)) (b * (l + l)) (d * (l + l)) k
  unfolding joint_to
  second = product_weight p l 0 1 0 _ _ _ (b ∷ []) (λ at. simp (xor_zero_l, xor_zero_r) refl) k

  pub third : product_to p l (d ∷ []) k ≡ weight_to p l 0 0 1 (a * (l + l)) (b * (l + l)) (d * (l + l)) k
  unfolding joint_to
  third = product_weight p l 0 0 1 _ _ _ (d ∷ []) (λ at. simp (xor_zero_l, xor_zero_r) refl) k

  pub first_second : product_to p l (a ∷ b ∷ []) k ≡ weight_to p l 1 1 0 (a * (l + l)) (b * (l + l)) (d * (l + l)) k
  unfolding joint_to
  first_second = product_weight p l 1 1 0 _ _ _ (a ∷ b ∷ []) (λ at. simp (xor_zero_l, xor_zero_r) refl) k

  pub first_third : product_to p l (a ∷ d ∷ []) k ≡ weight_to p l 1 0 1 (a * (l + l)) (b * (l + l)) (d * (l + l)) k
  unfolding joint_to
  first_third = product_weight p l 1 0 1 _ _ _ (a ∷ d ∷ []) (λ at. simp (xor_zero_l, xor_zero_r) refl) k

  pub second_third : product_to p l (b ∷ d ∷ []) k ≡ weight_to p l 0 1 1 (a * (l + l)) (b * (l + l)) (d * (l + l)) k
  unfolding joint_to
  second_third = product_weight p l 0 1 1 _ _ _ (b ∷ d ∷ []) (λ at. simp (xor_zero_l, xor_zero_r) refl) k

  pub all_three : product_to p l (a ∷ b ∷ d ∷ []) k ≡ weight_to p l 1 1 1 (a * (l + l)) (b * (l + l)) (d * (l + l)) k
  unfolding joint_to
  all_three = product_weight p l 1 1 1 _ _ _ (a ∷ b ∷ d ∷ []) (λ at. simp (xor_zero_l, xor_zero_r) refl) k
