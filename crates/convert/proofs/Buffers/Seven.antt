-- The table of the seven rows, and what ccx and ccz write in the buffers.
use mathlib.Core.Path.{◌≡◌, refl, sym, ap, ◌∙◌}
use mathlib.Core.List.{List, [], ◌∷◌}
use Prim.Native.Nat.{ℕ, zero, suc, ◌+◌, ◌*◌, ◌<◌}
use native.Mathlib.Omega.{arith}
use native.Mathlib.Numerals.{add-one}
use lib.ListN.{get_or, set}
use lib.Seq.{sets}
use Rattle.arena.specs.Limits.{operation_words}
use Rattle.arena.specs.Operations.{rotate_words}
use Rattle.convert.specs.Code.Raw.{Writing, writing, put_op, row_at, subset_of, subset_word, put_rows, put_four, put_seven}

abbrev table : List (ℕ × ℕ)
table = (1, 1) ∷ (2, 1) ∷ (4, 1) ∷ (3, 7) ∷ (5, 7) ∷ (6, 7) ∷ (7, 1) ∷ []

pub row_angle : (j : ℕ) → j < 7 → ((get_or table j (0, 0)).1 ≡ (row_at j).angle) × ((get_or table j (0, 0)).1 < 8)
row_angle zero h = (refl, omega arith)
row_angle (suc zero) h = (refl, omega arith)
row_angle (suc (suc zero)) h = (refl, omega arith)
row_angle (suc (suc (suc zero))) h = (refl, omega arith)
row_angle (suc (suc (suc (suc zero)))) h = (refl, omega arith)
row_angle (suc (suc (suc (suc (suc zero))))) h = (refl, omega arith)
row_angle (suc (suc (suc (suc (suc (suc zero)))))) h = (refl, omega arith)
row_angle (suc (suc (suc (suc (suc (suc (suc j))))))) h = absurd (omega arith)

pub word_past : (s a b d k : ℕ) → (s ≡ 0 → ⊥) → (s ≡ 1 → ⊥) → (s ≡ 2 → ⊥) → (s ≡ 3 → ⊥) → (s ≡ 4 → ⊥) → (s ≡ 5 → ⊥) → (s ≡ 6 → ⊥) → 4 * (k + 3) ≡ subset_word s a b d k
word_past zero a b d k n0 n1 n2 n3 n4 n5 n6 = absurd (n0 refl)
word_past (suc zero) a b d k n0 n1 n2 n3 n4 n5 n6 = absurd (n1 refl)
word_past (suc (suc zero)) a b d k n0 n1 n2 n3 n4 n5 n6 = absurd (n2 refl)
word_past (suc (suc (suc zero))) a b d k n0 n1 n2 n3 n4 n5 n6 = absurd (n3 refl)
word_past (suc (suc (suc (suc zero)))) a b d k n0 n1 n2 n3 n4 n5 n6 = absurd (n4 refl)
word_past (suc (suc (suc (suc (suc zero))))) a b d k n0 n1 n2 n3 n4 n5 n6 = absurd (n5 refl)
word_past (suc (suc (suc (suc (suc (suc zero)))))) a b d k n0 n1 n2 n3 n4 n5 n6 = absurd (n6 refl)
word_past (suc (suc (suc (suc (suc (suc (suc s))))))) a b d k n0 n1 n2 n3 n4 n5 n6 = refl

pub rows_none : (i a b d k u : ℕ) (os : List ℕ) → put_rows i 0 a b d k (writing 0 [] u os) ≡ writing 0 [] u os
unfolding put_rows
rows_none i a b d k u os = refl

pub rows_more : (i j a b d k u₀ : ℕ) (os₀ : List ℕ) (u : ℕ) (os : List ℕ) (sub axis ang u' : ℕ) (os' : List ℕ) → put_rows i j a b d k (writing 0 [] u₀ os₀) ≡ writing 0 [] u os
    → sub ≡ subset_of (row_at j) → axis ≡ subset_word sub a b d k → ang ≡ (row_at j).angle → (u' ≡ u + 1) × (os' ≡ sets os (operation_words * u) (rotate_words axis ang i))
    → put_rows i (j + 1) a b d k (writing 0 [] u₀ os₀) ≡ writing 0 [] u' os'
unfolding put_rows
rows_more i j a b d k u₀ os₀ u os sub axis ang u' os' e es ea en t = rw (add-one j, e, t.0, t.1, ea, es, en)

pub four_put : (c : ℕ) (ns : List ℕ) (a b d c₁ c₂ c₃ c₄ : ℕ) (ns₁ ns₂ ns₃ ns₄ : List ℕ)
    → (c₁ ≡ c + 1) × (ns₁ ≡ set (set ns (2 * c) (2 + 4 * a)) (2 * c + 1) b)
    → (c₂ ≡ c₁ + 1) × (ns₂ ≡ set (set ns₁ (2 * c₁) (2 + 4 * a)) (2 * c₁ + 1) d)
    → (c₃ ≡ c₂ + 1) × (ns₃ ≡ set (set ns₂ (2 * c₂) (2 + 4 * b)) (2 * c₂ + 1) d)
    → (c₄ ≡ c₃ + 1) × (ns₄ ≡ set (set ns₃ (2 * c₃) (2 + 4 * (4 * c))) (2 * c₃ + 1) d)
    → (c₄ ≡ c + 4) × (put_four a b d (writing c ns 0 []) ≡ writing c₄ ns₄ 0 [])
unfolding put_four
four_put c ns a b d c₁ c₂ c₃ c₄ ns₁ ns₂ ns₃ ns₄ p₁ p₂ p₃ p₄ =
    (omega (arith, p₁.0, p₂.0, p₃.0, p₄.0), rw (p₄.0, p₄.1, p₃.0, p₃.1, p₂.0, p₂.1, p₁.0, p₁.1))

rows_apart : (i j a b d k c : ℕ) (ns : List ℕ) (u : ℕ) (os : List ℕ)
    → put_rows i j a b d k (writing c ns u os) ≡ writing c ns (put_rows i j a b d k (writing 0 [] u os)).used (put_rows i j a b d k (writing 0 [] u os)).operations
unfolding put_rows
rows_apart i zero a b d k c ns u os = refl
rows_apart i (suc j) a b d k c ns u os = ap (put_op (rotate_words (subset_word (subset_of (row_at j)) a b d k) (row_at j).angle i)) (rows_apart i j a b d k c ns u os)

pub seven_put : (i c : ℕ) (ns : List ℕ) (u : ℕ) (os : List ℕ) (a b d c' u' r s : ℕ) (ns' os' : List ℕ)
    → (c' ≡ c + 4) × (put_four a b d (writing c ns 0 []) ≡ writing c' ns' 0 [])
    → (u' ≡ u + 7) × (put_rows i 7 a b d c (writing 0 [] u os) ≡ writing 0 [] u' os') → (r ≡ c') × (s ≡ u')
    → writing r ns' s os' ≡ put_seven i a b d (writing c ns u os)
unfolding put_seven put_four
seven_put i c ns u os a b d c' u' r s ns' os' f g m =
    let X = put_four a b d (writing c ns 0 []) in
    let e₁ : X.count ≡ c' = ap (λ (x : Writing). x.count) f.1 in
    let e₂ : X.nodes ≡ ns' = ap (λ (x : Writing). x.nodes) f.1 in
    let e₃ : (put_rows i 7 a b d c (writing 0 [] u os)).used ≡ u' = ap (λ (x : Writing). x.used) g.1 in
    let e₄ : (put_rows i 7 a b d c (writing 0 [] u os)).operations ≡ os' = ap (λ (x : Writing). x.operations) g.1 in
    sym (rows_apart i 7 a b d c X.count X.nodes u os ∙ rw (e₁, e₂, e₃, e₄, ← m.0, ← m.1))

-- one operation more
pub op_put : (c : ℕ) (ns : List ℕ) (u : ℕ) (os vs : List ℕ) (u₁ r s : ℕ) (os₁ : List ℕ) → (u₁ ≡ u + 1) × (os₁ ≡ sets os (operation_words * u) vs) → (r ≡ c) × (s ≡ u₁)
    → writing r ns s os₁ ≡ put_op vs (writing c ns u os)
op_put c ns u os vs u₁ r s os₁ t m = rw (m.0, m.1, t.0, t.1)
