-- Words that are copied to the front of a buffer.
use Rattle.std.proofs.Common.{◌≡◌, ℕ, zero, suc, min, List, [], ◌∷◌, ◌++◌, length, take, drop, refl, ap, arith}
use Rattle.pbc.specs.Buffers.{copied}

pub copied_as : (us ws : List ℕ) (n : ℕ) → n ≡ min (length us) (length ws) → take n us ++ drop n ws ≡ copied us ws
unfolding copied
copied_as [] ws n e = let z : n ≡ 0 = omega arith in rw z refl
copied_as (u ∷ us) [] n e = let z : n ≡ 0 = omega arith in rw z refl
copied_as (u ∷ us) (w ∷ ws) zero e = absurd (omega arith)
copied_as (u ∷ us) (w ∷ ws) (suc n) e = ap (λ l. u ∷ l) (copied_as us ws n (omega arith))
