-- The classical bits that are taken, as bits of words.
use mathlib.Core.Path.{◌≡◌, refl, ap, sym, ◌∙◌}
use mathlib.Core.Bool.{Bool, true, false, cond, ◌&&◌}
use mathlib.Core.Logic.{◌≢◌, ⊎_elim}
use mathlib.Core.List.{List, [], ◌∷◌}
use Prim.Native.Nat.{ℕ, suc, ◌+◌, ◌*◌, ◌-◌, ◌/◌, ◌%◌, ◌^◌, ◌<◌, ◌≤◌, max}
use native.Mathlib.Nat.{pow-suc, div-eq_of_lt, one-mul}
use native.Mathlib.Omega.{arith}
use lib.Dec.{leb}
use borrow.Author.Tests.{leb-false, eq-eqb, ne_eqb}
use lib.ListN.{length, get_or, replicate, length-set, length-replicate, get_or-replicate}
use lib.Seq.{get_or-set_same, get_or-set_other}
use lib.Bits.{bit_or, or_shr, or_step}
use lib.Pow.{pow_pos, pow-lt, pow-add, shl-shr}
use Rattle.arena.specs.Errors.{◌⟫◌⇒◌}
use Rattle.convert.specs.Types.{PbcError, Checked, Fine, Wrong}
use Rattle.convert.specs.Frame.{member}
use Rattle.convert.specs.Code.Marks.{is_marked, marked, Marks}
use Rattle.convert.proofs.Packed.Words.{below, same_or_not}

-- ---- one word

or_low : (a b : ℕ) → bit_or a b % 2 ≡ max (a % 2) (b % 2)
or_low a b = rw (or_step a b) (omega arith)

or_bit : (w v j : ℕ) → bit_or w v / 2 ^ j % 2 ≡ max (w / 2 ^ j % 2) (v / 2 ^ j % 2)
or_bit w v j = rw (or_shr w v j) (or_low (w / 2 ^ j) (v / 2 ^ j))

same_bit : (k : ℕ) → 2 ^ k / 2 ^ k ≡ 1
same_bit k = ap (λ m. m / 2 ^ k) (sym (one-mul (2 ^ k))) ∙ shl-shr 1 k

higher_bit : (j m : ℕ) → 2 ^ (suc m + j) / 2 ^ j % 2 ≡ 0
higher_bit j m = rw (pow-add 2 (suc m) j, shl-shr (2 ^ suc m) j, pow-suc 2 m) (omega arith)

other_bit : (j k : ℕ) → j ≢ k → 2 ^ k / 2 ^ j % 2 ≡ 0
other_bit j k ne = ⊎_elim
    (λ (lo : j < k). let e : suc (k - suc j) + j ≡ k = omega arith in rw e at (higher_bit j (k - suc j)))
    (λ (hi : k ≤ j). let lt : k < j = omega (arith, ne) in rw (div-eq_of_lt (pow-lt lt)))
    (below j k)

bit_on : (w k : ℕ) → bit_or w (2 ^ k) / 2 ^ k % 2 ≡ 1
bit_on w k = or_bit w (2 ^ k) k ∙ rw (same_bit k) (omega arith)

bit_off : (w j k : ℕ) → j ≢ k → bit_or w (2 ^ k) / 2 ^ j % 2 ≡ w / 2 ^ j % 2
bit_off w j k ne = or_bit w (2 ^ k) j ∙ rw (other_bit j k ne) (omega arith)

-- ---- all words

pub no_marks : (k : ℕ) → Marks [] (replicate k 0)
no_marks k = record {
  same = λ b h.
      let e = length-replicate {A = ℕ} k 0 in
      rw (get_or-replicate {A = ℕ} k (b / 64) 0 0 (omega arith), div-eq_of_lt (pow_pos (b % 64)));
}

pub more_marks : (b : ℕ) (taken ws : List ℕ) → Marks taken ws → Marks (b ∷ taken) (marked b ws)
more_marks b taken ws M = record { same = λ c h. at c (rw (length-set ws (b / 64) _) at h) }
  where
    v : ℕ
    v = bit_or (get_or ws (b / 64) 0) (2 ^ (b % 64))

    here : (c : ℕ) → c < 64 * length ws → c / 64 ≡ b / 64 → is_marked c (marked b ws) ≡ member c (b ∷ taken)
    here c h e = ⊎_elim
        (λ (f : c % 64 ≡ b % 64).
        let same : c ≡ b = omega arith in
        rw (eq-eqb c b same, e, f, get_or-set_same ws (b / 64) _ 0 (omega arith), bit_on (get_or ws (b / 64) 0) (b % 64)))
        (λ (f : c % 64 ≢ b % 64).
        let other : c ≢ b = λ z. f (ap (λ m. m % 64) z) in
        rw (ne_eqb c b other, ← M.same c h, e, get_or-set_same ws (b / 64) _ 0 (omega arith), bit_off (get_or ws (b / 64) 0) (c % 64) (b % 64) f))
        (same_or_not (c % 64) (b % 64))

    at : (c : ℕ) → c < 64 * length ws → is_marked c (marked b ws) ≡ member c (b ∷ taken)
    at c h = ⊎_elim
        (λ (e : c / 64 ≡ b / 64). here c h e)
        (λ (e : c / 64 ≢ b / 64).
        let other : c ≢ b = λ z. e (ap (λ m. m / 64) z) in
        rw (ne_eqb c b other, ← M.same c h, get_or-set_other ws (b / 64) (c / 64) _ 0 e))
        (same_or_not (c / 64) (b / 64))

-- where a record measures, its bit is marked
pub marks_with : (m : Bool) (b : ℕ) (taken ws : List ℕ) → Marks taken ws → Marks (cond m (b ∷ taken) taken) (cond m (marked b ws) ws)
marks_with true b taken ws M = more_marks b taken ws M
marks_with false b taken ws M = M

-- past 9 the marks decide as the list does: a bit that no word holds has been refused
pub target_test : (q : Checked) (m : Bool) (cbits b : ℕ) (e f : PbcError) (taken ws : List ℕ) → cbits ≤ 64 * length ws → Marks taken ws
    → ((q ⟫ m && leb cbits b ⇒ e) ⟫ m && is_marked b ws ⇒ f) ≡ ((q ⟫ m && leb cbits b ⇒ e) ⟫ m && member b taken ⇒ f)
unfolding ◌⟫◌⇒◌
target_test q false cbits b e f taken ws h M = refl
target_test (Wrong g) true cbits b e f taken ws h M = refl
target_test Fine true cbits b e f taken ws h M = go (leb cbits b) refl
  where
    go : (t : Bool) → leb cbits b ≡ t → ((Fine ⟫ t ⇒ e) ⟫ is_marked b ws ⇒ f) ≡ ((Fine ⟫ t ⇒ e) ⟫ member b taken ⇒ f)
    go true z = refl
    go false z = let lt = leb-false cbits b z in rw (M.same b (omega arith))
