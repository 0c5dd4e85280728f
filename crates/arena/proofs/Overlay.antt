-- New words over what a slice had, and runs of stores.
use mathlib.Core.Path.{◌≡◌, refl, ap, ap₂, sym, ◌∙◌}
use mathlib.Core.List.{List, [], ◌∷◌, ◌++◌, append_assoc, append-nil}
use Prim.Native.Nat.{ℕ, zero, suc, ◌+◌, ◌-◌, ◌*◌, ◌≤◌, ◌<◌}
use native.Mathlib.Numerals.{add-one}
use native.Mathlib.Omega.{arith}
use borrow.Author.Tests.{le-ltb}
use lib.ListN.{length, take, drop, set, get_or, length-append, length-drop}
use borrow.Rule.Slice.PartMut.{mid_of, put_mid, Post-is}
use lib.Seq.{take_all, drop-length, sets, set-append_seam, drop-cons, take_at, drop-append_seam, drop-drop}
use Rattle.arena.specs.Limits.{max_qubits, operation_words}
use Rattle.arena.specs.Builder.{overlay, qubit_nodes, image_words, start_frame, frame_started, operation_written}

-- code stores at `i + k`
pub sets₂ : (ws : List ℕ) (i a b : ℕ) → set (set ws i a) (i + 1) b ≡ sets ws i (a ∷ b ∷ [])
sets₂ ws i a b = rw (add-one i)

pub sets₄ : (ws : List ℕ) (i a b c d : ℕ) → set (set (set (set ws i a) (i + 1) b) (i + 2) c) (i + 3) d ≡ sets ws i (a ∷ b ∷ c ∷ d ∷ [])
sets₄ ws i a b c d =
    let e₁ : i + 1 ≡ suc i = omega arith in
    let e₂ : i + 2 ≡ suc (suc i) = omega arith in
    let e₃ : i + 3 ≡ suc (suc (suc i)) = omega arith in
    rw (e₁, e₂, e₃)

pub sets₅ : (ws : List ℕ) (i a b c d e : ℕ) → set (set (set (set (set ws i a) (i + 1) b) (i + 2) c) (i + 3) d) (i + 4) e ≡ sets ws i (a ∷ b ∷ c ∷ d ∷ e ∷ [])
sets₅ ws i a b c d e =
    let e₁ : i + 1 ≡ suc i = omega arith in
    let e₂ : i + 2 ≡ suc (suc i) = omega arith in
    let e₃ : i + 3 ≡ suc (suc (suc i)) = omega arith in
    let e₄ : i + 4 ≡ suc (suc (suc (suc i))) = omega arith in
    rw (e₁, e₂, e₃, e₄)

pub length-overlay : (us ws : List ℕ) → length us ≤ length ws → length (overlay us ws) ≡ length ws
length-overlay us ws h = rw (length-append, length-drop) (omega arith)

-- one word more
overlay-set : (us ws : List ℕ) (a : ℕ) → length us < length ws → set (overlay us ws) (length us) a ≡ overlay (us ++ a ∷ []) ws
overlay-set us ws a h =
    let e : suc (length us) ≡ length (us ++ a ∷ []) = sym (length-append us (a ∷ []) ∙ add-one (length us)) in
    ap (λ l. set (us ++ l) (length us) a) (drop-cons ws (length us) 0 h) ∙ set-append_seam us (get_or ws (length us) 0) (drop (suc (length us)) ws) a
    ∙ sym (append_assoc us (a ∷ []) (drop (suc (length us)) ws))
    ∙ ap (λ k. (us ++ a ∷ []) ++ drop k ws) e

-- a run of words more
pub overlay-sets : (us vs ws : List ℕ) (k : ℕ) → length us ≡ k → length us + length vs ≤ length ws → sets (overlay us ws) k vs ≡ overlay (us ++ vs) ws
overlay-sets us [] ws k e h = ap (λ l. overlay l ws) (sym (append-nil us))
overlay-sets us (a ∷ vs) ws k e h =
    rw (← e) (ap (λ l. sets l (suc (length us)) vs) (overlay-set us ws a (omega arith))
    ∙ overlay-sets (us ++ a ∷ []) vs ws (suc (length us)) (rw length-append (omega arith)) (rw length-append (omega arith))
    ∙ ap (λ l. overlay l ws) (append_assoc us (a ∷ []) vs))

-- ---- the start of a circuit

pub length-qubit_nodes : (n : ℕ) → length (qubit_nodes n) ≡ 4 * n
length-qubit_nodes zero = refl
length-qubit_nodes (suc n) = rw (length-append, length-qubit_nodes n) (omega arith)

pub length-image_words : (first n : ℕ) → length (image_words first n) ≡ n
length-image_words first zero = refl
length-image_words first (suc n) = rw (length-append, length-image_words first n) (omega arith)

-- one qubit more
pub qubit_more : (ws : List ℕ) (q : ℕ) → 4 * q + 3 < length ws → sets (overlay (qubit_nodes q) ws) (4 * q) (5 ∷ q ∷ 13 ∷ q ∷ []) ≡ overlay (qubit_nodes (suc q)) ws
qubit_more ws q h = overlay-sets (qubit_nodes q) (5 ∷ q ∷ 13 ∷ q ∷ []) ws (4 * q) (length-qubit_nodes q) (rw length-qubit_nodes (omega arith))

pub image_word_more : (ws : List ℕ) (first q : ℕ) → q < length ws → set (overlay (image_words first q) ws) q (4 * (first + 2 * q)) ≡ overlay (image_words first (suc q)) ws
image_word_more ws first q h = overlay-sets (image_words first q) (4 * (first + 2 * q) ∷ []) ws q (length-image_words first q) (rw length-image_words (omega arith))

-- a part that starts at k is laid over, and what stands before it is kept
pub overlay-part : (us vs ws : List ℕ) (k : ℕ) → length us ≡ k → take k (overlay us ws) ++ overlay vs (drop k (overlay us ws)) ≡ overlay (us ++ vs) ws
overlay-part us vs ws k e =
    ap₂ (λ a b. a ++ overlay vs b) (take_at us (drop (length us) ws) k e) (rw (← e) (drop-append_seam us (drop (length us) ws)))
    ∙ sym (append_assoc us vs (drop (length vs) (drop (length us) ws)))
    ∙ ap (λ b. (us ++ vs) ++ b) (drop-drop (length vs) (length us) ws ∙ ap (λ m. drop m ws) (sym (length-append us vs)))

-- the rest of a slice from k on, lent as a part
pub overlay-rest : (us vs ws xs ys : List ℕ) (k : ℕ) → length us ≡ k → k ≤ length xs → xs ≡ overlay us ws → ys ≡ overlay vs (mid_of k (length xs - k) xs)
    → put_mid k (length xs - k) xs ys ≡ overlay (us ++ vs) ws
overlay-rest us vs ws xs ys k e h x y =
    ap₂ (λ l r. take k xs ++ (l ++ r)) (y ∙ ap (overlay vs) rest) (Post-is k (length xs) xs h ∙ drop-length xs)
    ∙ ap (λ l. take k xs ++ l) (append-nil (overlay vs (drop k xs))) ∙ ap (λ l. take k l ++ overlay vs (drop k l)) x ∙ overlay-part us vs ws k e
  where
    rest : mid_of k (length xs - k) xs ≡ drop k xs
    rest = take_all (length xs - k) (drop k xs) (rw length-drop (omega arith))

-- ---- where there is room

pub frame_started_lem : (n : ℕ) (ws : List ℕ) → n ≤ max_qubits → 2 * n ≤ length ws → frame_started n ws ≡ overlay (start_frame n) ws
unfolding frame_started
frame_started_lem n ws few room = rw (le-ltb max_qubits n few, le-ltb (length ws) (2 * n) room)

pub operation_written_lem : (i : ℕ) (vs ws : List ℕ) → operation_words * i + operation_words ≤ length ws → operation_written i vs ws ≡ sets ws (operation_words * i) vs
unfolding operation_written
operation_written_lem i vs ws room = rw (le-ltb (length ws) (operation_words * i + operation_words) (omega arith))
