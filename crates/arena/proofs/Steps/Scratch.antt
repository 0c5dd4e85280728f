-- The scratch words of a node, read after they were written, and what well-formed nodes' words say.
use mathlib.Core.Path.{◌≡◌, refl, ap₂, ◌∙◌}
use mathlib.Core.Logic.{◌≢◌}
use mathlib.Core.Bool.{Bool, true, false, cond, ◌&&◌}
use mathlib.Core.List.{List, [], ◌∷◌, ◌++◌, append-nil}
use Prim.Native.Nat.{ℕ, zero, suc, ◌+◌, ◌*◌, ◌/◌, ◌%◌, ◌≤◌, ◌<◌}
use native.Mathlib.Omega.{arith}
use borrow.Author.Tests.{leb-true}
use lib.Dec.{leb, ltb, eqb}
use lib.ListN.{length, get_or, set, length-set, replicate, drop}
use lib.Seq.{get_or-set_same, get_or-set_other}
use Rattle.pauli.specs.Letters.{pauli_of, phase_number}
use Rattle.arena.specs.References.{node_in}
use Rattle.arena.specs.Nodes.{PauliNode, Identity, Single, Product, Malformed, decode_as, decode, node_at}
use Rattle.arena.specs.Sparse.{Sparse, size}
use Rattle.arena.specs.Code.WalkWords.{scratch_at, uses_at, with_use, value_at, value_word, head_in, count_in, turn_in, Marks, LinksKept, ValuesKept}
use Rattle.arena.proofs.NodeRows.{both_true}

-- ---- uses

pub length-use : (l : List ℕ) (i v : ℕ) → length (with_use l i v) ≡ length l
length-use l i v = length-set (set l (4 * i) (v % 4294967296)) (4 * i + 1) (v / 4294967296) ∙ length-set l (4 * i) (v % 4294967296)

halves : (v : ℕ) → v % 4294967296 + 4294967296 * (v / 4294967296) ≡ v
halves v = omega arith

pub use_same : (l : List ℕ) (i v : ℕ) → 4 * i + 1 < length l → uses_at (with_use l i v) i ≡ v
use_same l i v h = ap₂ (λ (a b : ℕ). a + 4294967296 * b)
    (get_or-set_other (set l (4 * i) (v % 4294967296)) (4 * i + 1) (4 * i) _ 0 (λ e. omega arith) ∙ get_or-set_same l (4 * i) (v % 4294967296) 0 (omega arith))
    (get_or-set_same (set l (4 * i) (v % 4294967296)) (4 * i + 1) (v / 4294967296) 0 (rw (length-set l (4 * i) (v % 4294967296)) h))
    ∙ halves v

pub use_elsewhere : (l : List ℕ) (i v k : ℕ) → (k ≡ 4 * i → ⊥) → (k ≡ 4 * i + 1 → ⊥) → get_or (with_use l i v) k 0 ≡ get_or l k 0
use_elsewhere l i v k n₀ n₁ =
    get_or-set_other (set l (4 * i) (v % 4294967296)) (4 * i + 1) k (v / 4294967296) 0 n₁ ∙ get_or-set_other l (4 * i) k (v % 4294967296) 0 n₀

pub use_other : (l : List ℕ) (i v j : ℕ) → (j ≡ i → ⊥) → uses_at (with_use l i v) j ≡ uses_at l j
use_other l i v j ne = ap₂ (λ (a b : ℕ). a + 4294967296 * b)
    (use_elsewhere l i v (4 * j) (λ e. ne (omega arith)) (λ e. ne (omega arith)))
    (use_elsewhere l i v (4 * j + 1) (λ e. ne (omega arith)) (λ e. ne (omega arith)))

pub use_value : (l : List ℕ) (i v j : ℕ) → value_at (with_use l i v) j ≡ value_at l j
use_value l i v j = use_elsewhere l i v (4 * j + 2) (λ e. omega arith) (λ e. omega arith)

pub use_link : (l : List ℕ) (i v j : ℕ) → scratch_at 3 (with_use l i v) j ≡ scratch_at 3 l j
use_link l i v j = use_elsewhere l i v (4 * j + 3) (λ e. omega arith) (λ e. omega arith)

-- another word written
pub uses-set : (l : List ℕ) (i d v j : ℕ) → 2 ≤ d → d < 4 → uses_at (set l (4 * i + d) v) j ≡ uses_at l j
uses-set l i d v j h h' = ap₂ (λ (a b : ℕ). a + 4294967296 * b)
    (get_or-set_other l (4 * i + d) (4 * j) v 0 (λ e. omega arith)) (get_or-set_other l (4 * i + d) (4 * j + 1) v 0 (λ e. omega arith))

-- ---- values

module _ (head count phase : ℕ) (few : count ≤ 256) (small : phase < 4) where
  pub value_word-head : head_in (value_word head count phase) ≡ head
  value_word-head = omega arith

  pub value_word-count : count_in (value_word head count phase) ≡ count
  value_word-count = omega arith

  pub value_word-turn : turn_in (value_word head count phase) ≡ phase
  value_word-turn = omega arith

pub marks_word : (v : Sparse) (head count phase : ℕ) → count ≤ 256 → phase < 4 → count ≡ size v → phase ≡ phase_number v.phase → Marks true v (value_word head count phase)
marks_word v head count phase few small c p = (omega arith, value_word-count head count phase few small ∙ c, value_word-turn head count phase few small ∙ p)

-- the test that the code makes
pub marked : (b : Bool) (v : Sparse) (w : ℕ) → Marks b v w → w ≡ 0 → b ≡ false
marked true v w m e = absurd (omega (arith, m.0))
marked false v w m e = refl

pub unmarked : (b : Bool) (v : Sparse) (w : ℕ) → Marks b v w → (w ≡ 0 → ⊥) → b ≡ true
unmarked true v w m e = refl
unmarked false v w m e = absurd (e m)

pub values_same : {l : List ℕ} → ValuesKept l l
values_same = record { same = λ k. refl }

pub values_use : {l l' : List ℕ} (i v : ℕ) → l' ≡ with_use l i v → ValuesKept l l'
values_use {l} i v e = rw e (record { same = λ k. use_value l i v k })

pub values_then : {l l' l'' : List ℕ} → ValuesKept l l' → ValuesKept l' l'' → ValuesKept l l''
values_then a b = record { same = λ k. b.same k ∙ a.same k }

-- ---- links

pub links_same : {l l' : List ℕ} → l' ≡ l → LinksKept l l'
links_same e = rw e (record { same = λ k. refl })

pub links_value : {l l' : List ℕ} (i v : ℕ) → l' ≡ set l (4 * i + 2) v → LinksKept l l'
links_value {l} i v e = rw e (record { same = λ k. get_or-set_other l (4 * i + 2) (4 * k + 3) v 0 (λ q. omega arith) })

pub links_use : {l l' : List ℕ} (i v : ℕ) → l' ≡ with_use l i v → LinksKept l l'
links_use {l} i v e = rw e (record { same = λ k. use_link l i v k })

pub links_then : {l l' l'' : List ℕ} → LinksKept l l' → LinksKept l' l'' → LinksKept l l''
links_then a b = record { same = λ k. b.same k ∙ a.same k }

-- ---- a list filled to its end

drop-end : (l : List ℕ) → drop (length l) l ≡ []
drop-end [] = refl
drop-end (a ∷ l) = drop-end l

pub fill_all : (l : List ℕ) (i : ℕ) → i ≡ length l → replicate i 0 ++ drop i l ≡ replicate (length l) 0
fill_all l i e = rw (e, drop-end l, append-nil)

-- ---- what the words of a node that is not malformed say

cond-well : (c : Bool) (x : PauliNode) → cond c x Malformed ≢ Malformed → (c ≡ true) × (cond c x Malformed ≡ x)
cond-well true x h = (refl, refl)
cond-well false x h = absurd (h refl)

decode-product : (k n i rest b : ℕ) → k ≡ 2 → decode_as k n i rest b ≢ Malformed → decode_as k n i rest b ≡ Product rest b
decode-product k n i rest b e h = rw e (cond-well (ltb (node_in rest) i && ltb (node_in b) i) (Product rest b) (rw e at h)).1

decode-single : (k n i rest b : ℕ) → k ≡ 1 → decode_as k n i rest b ≢ Malformed
    → (decode_as k n i rest b ≡ Single b (pauli_of rest)) × (1 ≤ rest) × (rest ≤ 3)
decode-single k n i rest b e h =
    let w = cond-well (leb 1 rest && leb rest 3 && ltb b n) (Single b (pauli_of rest)) (rw e at h) in
    let p = both_true (leb 1 rest && leb rest 3) (ltb b n) w.0 in
    let q = both_true (leb 1 rest) (leb rest 3) p.0 in
    (rw e w.1, leb-true 1 rest q.0, leb-true rest 3 q.1)

decode-blank : (k n i rest b : ℕ) → (k ≡ 2 → ⊥) → (k ≡ 1 → ⊥) → decode_as k n i rest b ≢ Malformed → decode_as k n i rest b ≡ Identity
decode-blank zero n i rest b n₂ n₁ h = (cond-well (eqb rest 0 && eqb b 0) Identity h).1
decode-blank (suc zero) n i rest b n₂ n₁ h = absurd (n₁ refl)
decode-blank (suc (suc zero)) n i rest b n₂ n₁ h = absurd (n₂ refl)
decode-blank (suc (suc (suc k))) n i rest b n₂ n₁ h = absurd (h refl)

module _ (n : ℕ) (words : List ℕ) (i : ℕ) (well : node_at n words i ≢ Malformed) {a b : ℕ} (a-is : a ≡ get_or words (2 * i) 0) (b-is : b ≡ get_or words (2 * i + 1) 0) where
  pub node_product : a % 4 ≡ 2 → node_at n words i ≡ Product (a / 4) b
  unfolding node_at decode
  node_product e = rw (a-is, b-is)
      (decode-product (get_or words (2 * i) 0 % 4) n i (get_or words (2 * i) 0 / 4) (get_or words (2 * i + 1) 0) (rw a-is at e) well)

  pub node_single : a % 4 ≡ 1 → (node_at n words i ≡ Single b (pauli_of (a / 4))) × (1 ≤ a / 4) × (a / 4 ≤ 3)
  unfolding node_at decode
  node_single e = rw (a-is, b-is)
      (decode-single (get_or words (2 * i) 0 % 4) n i (get_or words (2 * i) 0 / 4) (get_or words (2 * i + 1) 0) (rw a-is at e) well)

  pub node_blank : (a % 4 ≡ 2 → ⊥) → (a % 4 ≡ 1 → ⊥) → node_at n words i ≡ Identity
  unfolding node_at decode
  node_blank n₂ n₁ =
      decode-blank (get_or words (2 * i) 0 % 4) n i (get_or words (2 * i) 0 / 4) (get_or words (2 * i + 1) 0) (rw a-is at n₂) (rw a-is at n₁) well
