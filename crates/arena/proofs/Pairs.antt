-- The words of a list, taken n at a time.
use mathlib.Core.Path.{◌≡◌, ap, ◌∙◌}
use mathlib.Core.List.{List, []}
use Prim.Native.Nat.{ℕ, zero, suc, ◌+◌, ◌*◌, ◌/◌, ◌<◌, ◌≤◌}
use native.Mathlib.Omega.{arith}
use native.Mathlib.Numerals.{unary_clauses}
use lib.ListN.{length, get_or, take, drop}
use Rattle.std.specs.Simd.{first_chunks}
use Rattle.std.proofs.lemmas.List.{get_or-take, get_or-drop}

chunk_word : (n count k : ℕ) (ws : List ℕ) (j : ℕ) → k < count → j < n → get_or (get_or (first_chunks n count ws) k []) j 0 ≡ get_or ws (n * k + j) 0
chunk_word n zero k ws j h lt = absurd (omega arith)
chunk_word n (suc m) zero ws j h lt = let e : j ≡ n * 0 + j = simp unary_clauses (omega arith) in get_or-take n ws j 0 lt ∙ ap (λ i. get_or ws i 0) e
chunk_word n (suc m) (suc k) ws j h lt =
    let e : n + (n * k + j) ≡ n * suc k + j = simp unary_clauses (omega arith) in
    chunk_word n m k (drop n ws) j (omega arith) lt ∙ get_or-drop n ws (n * k + j) 0 ∙ ap (λ i. get_or ws i 0) e

-- word j of pair k
pub word_of_pair : (ws : List ℕ) (pairs : List (List ℕ)) (k j : ℕ) → pairs ≡ first_chunks 2 (length ws / 2) ws → 2 * (k + 1) ≤ length ws → j < 2
    → get_or (get_or pairs k []) j 0 ≡ get_or ws (2 * k + j) 0
word_of_pair ws pairs k j e long two =
    ap (λ (ps : List (List ℕ)). get_or (get_or ps k []) j 0) e ∙ chunk_word 2 (length ws / 2) k ws j (omega arith) two

-- word j of pair k among the first
pub pair_word : (ws : List ℕ) (pairs : List (List ℕ)) (count k j : ℕ) → pairs ≡ first_chunks 2 (length ws / 2) ws → 2 * count ≤ length ws → k < count → j < 2
    → get_or (get_or (take count pairs) k []) j 0 ≡ get_or ws (2 * k + j) 0
pair_word ws pairs count k j e long lt two =
    ap (λ (p : List ℕ). get_or p j 0) (get_or-take count pairs k [] lt) ∙ word_of_pair ws pairs k j e (omega arith) two
