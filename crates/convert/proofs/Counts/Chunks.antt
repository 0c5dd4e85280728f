-- A list of gate words by chunks of four: the words of a chunk are those of its record.
use mathlib.Core.Path.{◌≡◌, ap, ◌∙◌}
use mathlib.Core.List.{List, []}
use Prim.Native.Nat.{ℕ, zero, suc, ◌+◌, ◌*◌, ◌/◌, ◌<◌}
use native.Mathlib.Omega.{arith}
use lib.ListN.{length, get_or, drop}
use Rattle.std.specs.Simd.{first_chunks}
use Rattle.std.proofs.lemmas.List.{get_or-take, get_or-drop}

chunk_word : (count : ℕ) (gs : List ℕ) (i j : ℕ) → i < count → j < 4 → get_or (get_or (first_chunks 4 count gs) i []) j 0 ≡ get_or gs (4 * i + j) 0
chunk_word zero gs i j h lt = absurd (omega arith)
chunk_word (suc m) gs zero j h lt = let e : j ≡ 4 * 0 + j = omega arith in get_or-take 4 gs j 0 lt ∙ ap (λ (k : ℕ). get_or gs k 0) e
chunk_word (suc m) gs (suc i) j h lt =
    let e : 4 + (4 * i + j) ≡ 4 * suc i + j = omega arith in
    chunk_word m (drop 4 gs) i j (omega arith) lt ∙ get_or-drop 4 gs (4 * i + j) 0 ∙ ap (λ (k : ℕ). get_or gs k 0) e

pub in_chunk : (gs : List ℕ) (chunks : List (List ℕ)) (i j : ℕ) → chunks ≡ first_chunks 4 (length gs / 4) gs → i < length gs / 4 → j < 4
    → get_or (get_or chunks i []) j 0 ≡ get_or gs (4 * i + j) 0
in_chunk gs chunks i j e h lt = rw e (chunk_word (length gs / 4) gs i j h lt)

pub first_in_chunk : (gs : List ℕ) (chunks : List (List ℕ)) (i : ℕ) → chunks ≡ first_chunks 4 (length gs / 4) gs → i < length gs / 4 → get_or (get_or chunks i []) 0 0 ≡ get_or gs (4 * i) 0
first_in_chunk gs chunks i e h = let z : 4 * i + 0 ≡ 4 * i = omega arith in in_chunk gs chunks i 0 e h (omega arith) ∙ ap (λ (k : ℕ). get_or gs k 0) z
