-- The words of a list, taken n at a time; and a record as a chunk of four.
use mathlib.Core.Path.{◌≡◌, refl, ap, ◌∙◌}
use mathlib.Core.List.{List, [], ◌∷◌}
use Prim.Native.Nat.{ℕ, zero, suc, ◌+◌, ◌*◌, ◌/◌, ◌<◌, ◌≤◌}
use native.Mathlib.Omega.{arith}
use native.Mathlib.Numerals.{unary_clauses}
use lib.ListN.{length, get_or, take, drop}
use Rattle.std.specs.Simd.{first_chunks}
use Rattle.convert.specs.Records.{record_of}
use Rattle.convert.specs.Code.Raw.{record_at, record_words}

get_take : (m i : ℕ) (ws : List ℕ) → i < m → get_or (take m ws) i 0 ≡ get_or ws i 0
get_take zero i ws h = absurd (omega arith)
get_take (suc m) i [] h = refl
get_take (suc m) zero (w ∷ ws) h = refl
get_take (suc m) (suc i) (w ∷ ws) h = get_take m i ws (omega arith)

get_drop : (m i : ℕ) (ws : List ℕ) → get_or (drop m ws) i 0 ≡ get_or ws (m + i) 0
get_drop zero i ws = let e : i ≡ 0 + i = omega arith in ap (λ j. get_or ws j 0) e
get_drop (suc m) i [] = refl
get_drop (suc m) i (w ∷ ws) = let e : suc (m + i) ≡ suc m + i = omega arith in get_drop m i ws ∙ ap (λ j. get_or (w ∷ ws) j 0) e

-- word j of chunk k
pub chunk_word : (n count k : ℕ) (ws : List ℕ) (j : ℕ) → k < count → j < n → get_or (get_or (first_chunks n count ws) k []) j 0 ≡ get_or ws (n * k + j) 0
chunk_word n zero k ws j h lt = absurd (omega arith)
chunk_word n (suc m) zero ws j h lt = let e : j ≡ n * 0 + j = simp unary_clauses (omega arith) in get_take n j ws lt ∙ ap (λ i. get_or ws i 0) e
chunk_word n (suc m) (suc k) ws j h lt =
    let e : n + (n * k + j) ≡ n * suc k + j = simp unary_clauses (omega arith) in
    chunk_word n m k (drop n ws) j (omega arith) lt ∙ get_drop n (n * k + j) ws ∙ ap (λ i. get_or ws i 0) e

pub chunk_record : (gs : List ℕ) (k : ℕ) → k < length gs / 4
    → record_of (get_or (get_or (first_chunks 4 (length gs / 4) gs) k []) 0 0) (get_or (get_or (first_chunks 4 (length gs / 4) gs) k []) 1 0)
    (get_or (get_or (first_chunks 4 (length gs / 4) gs) k []) 2 0) (get_or (get_or (first_chunks 4 (length gs / 4) gs) k []) 3 0)
    ≡ record_at gs k
chunk_record gs k h =
    let e : 4 * k + 0 ≡ 4 * k = omega arith in
    let first = chunk_word 4 (length gs / 4) k gs 0 h (omega arith) ∙ ap (λ i. get_or gs i 0) e in
    λ i. record_of (first i) (chunk_word 4 (length gs / 4) k gs 1 h (omega arith) i) (chunk_word 4 (length gs / 4) k gs 2 h (omega arith) i)
    (chunk_word 4 (length gs / 4) k gs 3 h (omega arith) i)

-- word j of a record, where all are given as chunks
pub word_of_record : (gs : List ℕ) (rs : List (List ℕ)) (k j : ℕ) → rs ≡ first_chunks 4 (length gs / 4) gs → k < length gs / 4 → j < 4
    → get_or (get_or rs k []) j 0 ≡ get_or gs (4 * k + j) 0
word_of_record gs rs k j e h lt = ap (λ (l : List (List ℕ)). get_or (get_or l k []) j 0) e ∙ chunk_word 4 (length gs / 4) k gs j h lt

pub kind_of_record : (gs : List ℕ) (rs : List (List ℕ)) (k : ℕ) → rs ≡ first_chunks 4 (length gs / 4) gs → k < length gs / 4
    → get_or (get_or rs k []) 0 0 ≡ get_or gs (4 * k) 0
kind_of_record gs rs k e h = let z : 4 * k + 0 ≡ 4 * k = omega arith in word_of_record gs rs k 0 e h (omega arith) ∙ ap (λ i. get_or gs i 0) z

-- a record is the list of its words
later : (k a b c : ℕ) (gs : List ℕ) (i : ℕ) → record_words (record_at gs i) ≡ record_words (record_at (k ∷ a ∷ b ∷ c ∷ gs) (suc i))
later k a b c gs i =
    let e₀ : 4 * suc i ≡ suc (suc (suc (suc (4 * i)))) = omega arith in
    let e₁ : 4 * suc i + 1 ≡ suc (suc (suc (suc (4 * i + 1)))) = omega arith in
    let e₂ : 4 * suc i + 2 ≡ suc (suc (suc (suc (4 * i + 2)))) = omega arith in
    let e₃ : 4 * suc i + 3 ≡ suc (suc (suc (suc (4 * i + 3)))) = omega arith in
    rw (e₁, e₂, e₃, e₀)

pub chunk_list : (count : ℕ) (gs : List ℕ) (i : ℕ) → i < count → 4 * count ≤ length gs → get_or (first_chunks 4 count gs) i [] ≡ record_words (record_at gs i)
chunk_list zero gs i h g = absurd (omega arith)
chunk_list (suc m) [] i h g = absurd (omega arith)
chunk_list (suc m) (k ∷ []) i h g = absurd (omega arith)
chunk_list (suc m) (k ∷ a ∷ []) i h g = absurd (omega arith)
chunk_list (suc m) (k ∷ a ∷ b ∷ []) i h g = absurd (omega arith)
chunk_list (suc m) (k ∷ a ∷ b ∷ c ∷ gs) zero h g = refl
chunk_list (suc m) (k ∷ a ∷ b ∷ c ∷ gs) (suc i) h g = chunk_list m gs i (omega arith) (omega arith) ∙ later k a b c gs i
