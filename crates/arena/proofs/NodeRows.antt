-- Reading rows through nodes: each node's row by the rows of all, and that later nodes change no older row.
use mathlib.Core.Path.{◌≡◌, refl, ap, ap₂, sym, ◌∙◌}
use mathlib.Core.Bool.{Bool, true, false, cond, ◌&&◌}
use mathlib.Core.List.{List, [], ◌∷◌, ◌++◌}
use Prim.Native.Nat.{ℕ, zero, suc, ◌+◌, ◌*◌, ◌/◌, ◌%◌, ◌≤◌, ◌<◌}
use native.Mathlib.Nat.{not-suc-le-zero}
use native.Mathlib.Decide.{ℕ_discrete}
use native.Mathlib.Omega.{arith}
use borrow.Author.Tests.{ltb-true, lt-ltb}
use lib.Dec.{leb, ltb, eqb}
use lib.ListN.{length, get_or, take, length-append, get_or-append}
use lib.Seq.{get_or_at, get_or-take}
use Rattle.pauli.specs.Letters.{pauli_of, power, phase_number}
use Rattle.pauli.specs.Rows.{Row, ◌★◌, scaled, identity, present}
use Rattle.pauli.proofs.Finite.{⊕-assoc}
use Rattle.pauli.proofs.Rows.{row_eq}
use Rattle.pauli.proofs.Numbers.{power-plus}
use Rattle.arena.specs.Types.{Phase, Pauli, I, X, Y, Z}
use Rattle.arena.specs.References.{node_in, phase_in, scaled_word}
use Rattle.arena.specs.Nodes.{PauliNode, Identity, Single, Product, Malformed, single_word, product_word, decode_as, decode, node_at, image_in, row_of, rows_to, values, image}

-- ---- a product's children are older

abbrev pub Older : ℕ → PauliNode → Type 0
Older i Identity = Unit {0}
Older i (Single q a) = Unit {0}
Older i (Product l r) = (node_in l < i) × (node_in r < i)
Older i Malformed = Unit {0}

pub both_true : (a b : Bool) → (a && b) ≡ true → (a ≡ true) × (b ≡ true)
both_true true b e = (refl, e)
both_true false b e = let z : ◌≡◌ {A = ℕ} 0 1 = cc in absurd (omega arith)

older-cond : (b : Bool) (i : ℕ) (x : PauliNode) → (b ≡ true → Older i x) → Older i (cond b x Malformed)
older-cond true i x h = h refl
older-cond false i x h = tt

older_as : (k n i rest b : ℕ) → Older i (decode_as k n i rest b)
older_as zero n i rest b = older-cond (eqb rest 0 && eqb b 0) i Identity (λ e. tt)
older_as (suc zero) n i rest b = older-cond (leb 1 rest && leb rest 3 && ltb b n) i (Single b (pauli_of rest)) (λ e. tt)
older_as (suc (suc zero)) n i rest b = older-cond (ltb (node_in rest) i && ltb (node_in b) i) i (Product rest b)
    (λ e. let p = both_true (ltb (node_in rest) i) (ltb (node_in b) i) e in (ltb-true (node_in rest) i p.0, ltb-true (node_in b) i p.1))
older_as (suc (suc (suc k))) n i rest b = tt

pub older : (n : ℕ) (words : List ℕ) (i : ℕ) → Older i (node_at n words i)
unfolding node_at decode
older n words i = older_as (get_or words (2 * i) 0 % 4) n i (get_or words (2 * i) 0 / 4) (get_or words (2 * i + 1) 0)

-- ---- rows

module _ (n : ℕ) (node : ℕ → PauliNode) where
  pub length-rows : (k : ℕ) → length (rows_to n node k) ≡ k
  length-rows zero = refl
  length-rows (suc k) = length-append (rows_to n node k) _ ∙ omega (arith, length-rows k)

  -- the row of node i, by the rows before it, wherever the list ends
  pub row_at : (m i : ℕ) (d : Row) → i < m → get_or (rows_to n node m) i d ≡ row_of n (rows_to n node i) (node i)
  row_at zero i d h = absurd (not-suc-le-zero h)
  row_at (suc m) i d h = go (ℕ_discrete i m) (row_at m i d)
    where
      go : Dec (i ≡ m) → (i < m → get_or (rows_to n node m) i d ≡ row_of n (rows_to n node i) (node i))
          → get_or (rows_to n node m ++ (row_of n (rows_to n node m) (node m) ∷ [])) i d ≡ row_of n (rows_to n node i) (node i)
      go (yes e) ih = rw e (get_or_at (rows_to n node m) _ [] d m (length-rows m))
      go (no ne) ih = get_or-append (rows_to n node m) _ d i (rw length-rows (omega arith)) ∙ ih (omega arith)

  -- the same by the rows of all nodes
  pub row_is : ((i : ℕ) → Older i (node i)) → (m i : ℕ) → i < m → get_or (rows_to n node m) i (identity n) ≡ row_of n (rows_to n node m) (node i)
  row_is old m i h = row_at m i (identity n) h ∙ go (node i) (old i)
    where
      child : (w : ℕ) → node_in w < i → image_in n (rows_to n node i) w ≡ image_in n (rows_to n node m) w
      child w l = ap (scaled (phase_in w)) (row_at i (node_in w) (identity n) l ∙ sym (row_at m (node_in w) (identity n) (omega arith)))

      go : (x : PauliNode) → Older i x → row_of n (rows_to n node i) x ≡ row_of n (rows_to n node m) x
      go Identity f = refl
      go (Single q a) f = refl
      go (Product l r) f = ap₂ ◌★◌ (child l f.0) (child r f.1)
      go Malformed f = refl

  rows_agree : (other : ℕ → PauliNode) (k : ℕ) → ((i : ℕ) → i < k → node i ≡ other i) → rows_to n node k ≡ rows_to n other k
  rows_agree other zero h = refl
  rows_agree other (suc k) h = ap₂ (λ x rows. rows ++ (row_of n rows x ∷ [])) (h k (omega arith)) (rows_agree other k (λ i l. h i (omega arith)))

-- ---- words that agree on the first k nodes give them the same rows, whatever follows

same_word : (ws vs : List ℕ) (k i : ℕ) → i < k → take k ws ≡ take k vs → get_or ws i 0 ≡ get_or vs i 0
same_word ws vs k i h e = sym (get_or-take k ws i 0 h) ∙ ap (λ l. get_or l i 0) e ∙ get_or-take k vs i 0 h

pub node_older : (n : ℕ) (ws vs : List ℕ) (k i : ℕ) → i < k → take (2 * k) ws ≡ take (2 * k) vs → node_at n ws i ≡ node_at n vs i
unfolding node_at
node_older n ws vs k i h e = ap₂ (decode n i) (same_word ws vs (2 * k) (2 * i) (omega arith) e) (same_word ws vs (2 * k) (2 * i + 1) (omega arith) e)

pub image-older : (n k m : ℕ) (ws vs : List ℕ) (w : ℕ) → node_in w < k → k ≤ m → take (2 * k) ws ≡ take (2 * k) vs → image n m vs w ≡ image n k ws w
unfolding image values
image-older n k m ws vs w h le e = ap (scaled (phase_in w))
    (row_at n (node_at n vs) m (node_in w) (identity n) (omega arith)
    ∙ ap₂ (row_of n)
    (rows_agree n (node_at n vs) (node_at n ws) (node_in w) (λ i l. sym (node_older n ws vs k i (omega arith) e)))
    (sym (node_older n ws vs k (node_in w) h e))
    ∙ sym (row_at n (node_at n ws) k (node_in w) (identity n) h))

-- a node's row, by the rows of all
pub value_is : (n k : ℕ) (words : List ℕ) (i : ℕ) → i < k → get_or (values n k words) i (identity n) ≡ row_of n (values n k words) (node_at n words i)
unfolding values
value_is n k words i h = row_is n (node_at n words) (older n words) k i h

-- ---- one node more

-- a reference with no phase in front
pub image-of_node : (n k : ℕ) (words : List ℕ) (i : ℕ) → i < k → image n k words (4 * i) ≡ row_of n (values n k words) (node_at n words i)
unfolding image power
image-of_node n k words i h =
    let at : 4 * i / 4 ≡ i = omega arith in
    let front : 4 * i % 4 ≡ 0 = omega arith in
    rw (at, front) (value_is n k words i h)

pub single_decodes : (n i q : ℕ) (a : Pauli) → present a ≡ true → q < n → decode n i (single_word a) q ≡ Single q a
unfolding decode
single_decodes n i q I p h = let z : ◌≡◌ {A = ℕ} 0 1 = cc in absurd (omega arith)
single_decodes n i q X p h = rw (lt-ltb q n h)
single_decodes n i q Y p h = rw (lt-ltb q n h)
single_decodes n i q Z p h = rw (lt-ltb q n h)

pub product_decodes : (n i l r : ℕ) → node_in l < i → node_in r < i → decode n i (product_word l) r ≡ Product l r
unfolding decode
product_decodes n i l r hl hr =
    let kind : (2 + 4 * l) % 4 ≡ 2 = omega arith in
    let rest : (2 + 4 * l) / 4 ≡ l = omega arith in
    rw (kind, rest, lt-ltb (node_in l) i hl, lt-ltb (node_in r) i hr)

-- ---- a phase in front of a word

pub image-scaled : (n k : ℕ) (words : List ℕ) (p : Phase) (w : ℕ) → image n k words (scaled_word p w) ≡ scaled p (image n k words w)
unfolding image
image-scaled n k words p w =
    let at : scaled_word p w / 4 ≡ w / 4 = omega arith in
    let front : scaled_word p w % 4 ≡ (w % 4 + phase_number p) % 4 = omega arith in
    rw (at, front, power-plus (w % 4) p) (row_eq refl (⊕-assoc p (power (w % 4)) _))
