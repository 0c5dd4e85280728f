-- One of the later calls as the code runs it: the header after it, and its words.
use mathlib.Core.Path.{◌≡◌, refl}
use mathlib.Core.List.{List, []}
use Prim.Native.Nat.{ℕ, ◌/◌, ◌<◌}
use native.Mathlib.Omega.{arith}
use lib.ListN.{length, get_or}
use Rattle.std.specs.Prelude.{Result, Ok, Err}
use Rattle.std.specs.Result.{result_unwrap_or}
use Rattle.std.specs.Simd.{first_chunks}
use Rattle.convert.specs.Types.{Header, PbcError}
use Rattle.convert.proofs.GateKinds.Chunks.{chunk_word}
use Rattle.convert.specs.LaterWords.{header_or, call_words, words_at}

-- the header after a call: the one that it answers, or the one before where it refuses
pub made_or : (r : Result Header PbcError) (h : Header) → result_unwrap_or r h ≡ elim r [ Ok x ↦ x | Err e ↦ h ]
made_or (Ok x) h = refl
made_or (Err e) h = refl

pub first_or : {A : Type 0} (r : Result (Header × A) PbcError) (h : Header) → header_or r h ≡ elim r [ Ok x ↦ x.0 | Err e ↦ h ]
first_or (Ok x) h = refl
first_or (Err e) h = refl

-- the words of a call, as a chunk of six
pub chunk_words : (ws : List ℕ) (k : ℕ) → k < length ws / 6 → words_at (get_or (first_chunks 6 (length ws / 6) ws) k []) 0 ≡ words_at ws k
unfolding words_at
chunk_words ws k h = λ i. call_words
    (chunk_word 6 (length ws / 6) k ws 0 h (omega arith) i)
    (chunk_word 6 (length ws / 6) k ws 1 h (omega arith) i)
    (chunk_word 6 (length ws / 6) k ws 2 h (omega arith) i)
    (chunk_word 6 (length ws / 6) k ws 3 h (omega arith) i)
    (chunk_word 6 (length ws / 6) k ws 4 h (omega arith) i)
    (chunk_word 6 (length ws / 6) k ws 5 h (omega arith) i)
