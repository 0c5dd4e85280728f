-- Whether the two factors of a root commute, read off the phases in the scratch.
use mathlib.Core.Path.{◌≡◌, refl, ap, sym, ◌∙◌, subst}
use mathlib.Core.Bool.{Bool, true, false}
use mathlib.Core.List.{List}
use Prim.Native.Nat.{ℕ, ◌+◌, ◌*◌, ◌/◌, ◌%◌, ◌<◌}
use native.Mathlib.Omega.{arith}
use borrow.Author.Tests.{eqb-true, eqb-false}
use lib.Dec.{eqb}
use lib.ListN.{length, get_or}
use Rattle.pauli.specs.Letters.{phase_number}
use Rattle.pauli.specs.Rows.{Row, ◌★◌}
use Rattle.pauli.proofs.Litinski.{even_commute}
use Rattle.arena.specs.References.{node_in}
use Rattle.arena.specs.Nodes.{Product, node_at, row_of, values, image, factors_commute}
use Rattle.arena.specs.Code.Results.{Value}
use Rattle.arena.specs.Code.WalkWords.{value_named, RootReady, Settled}
use Rattle.arena.proofs.NodeRows.{Older, older, image-of_node}
use Rattle.arena.proofs.Steps.Scratch.{node_product, node_single, node_blank}

-- a node that is a product stands for the product of its factors
product_row : (n k : ℕ) (words : List ℕ) (i a b : ℕ) → i < k → node_at n words i ≡ Product a b → image n k words (4 * i) ≡ image n k words a ★ image n k words b
unfolding image
product_row n k words i a b lt e = image-of_node n k words i lt ∙ ap (row_of n (values n k words)) e

pub phase_few : {v : Value} (l : List ℕ) (w : ℕ) → v ≡ value_named l w → v.phase < 4
phase_few l w e = let q = ap (λ (v : Value). v.phase) e in omega arith

module _ {words l : List ℕ} {w : ℕ} (g : RootReady words l (node_in w + 1) w) {a : ℕ} (a-is : a ≡ get_or words (2 * node_in w) 0) where
  abbrev judged : ℕ → Bool
  judged count = factors_commute g.n count words (node_at g.n words (node_in w))

  pub no_product : (count : ℕ) → (a % 4 ≡ 2 → ⊥) → true ≡ judged count
  unfolding factors_commute
  no_product count n₂ = go (eqb (a % 4) 1) refl
    where
      go : (b : Bool) → eqb (a % 4) 1 ≡ b → true ≡ judged count
      go true e = sym (ap (factors_commute g.n count words) (node_single g.n words (node_in w) (g.well (node_in w) g.named) a-is refl (eqb-true (a % 4) 1 e)).0)
      go false e = sym (ap (factors_commute g.n count words) (node_blank g.n words (node_in w) (g.well (node_in w) g.named) a-is refl n₂ (eqb-false (a % 4) 1 e)))

  module _ (n₂ : a % 4 ≡ 2) {b : ℕ} (b-is : b ≡ get_or words (2 * node_in w + 1) 0) where
    product_is : node_at g.n words (node_in w) ≡ Product (a / 4) b
    product_is = node_product g.n words (node_in w) (g.well (node_in w) g.named) a-is b-is n₂

    low_factors : (node_in (a / 4) < node_in w) × (node_in b < node_in w)
    low_factors = subst (Older (node_in w)) product_is (older g.n words (node_in w))

    pub left_fits : 4 * node_in (a / 4) + 2 < length l
    left_fits = omega (arith, low_factors.0, g.long)

    pub right_fits : 4 * node_in b + 2 < length l
    right_fits = omega (arith, low_factors.1, g.long)

    module _ (count : ℕ) (low : node_in w < count) (s : Settled g.n count words l (node_in w)) {x y z : Value}
        (x-is : x ≡ value_named l (a / 4)) (y-is : y ≡ value_named l b) (z-is : z ≡ value_named l (4 * node_in w)) where
      pub factors-judged : eqb ((x.phase + y.phase + z.phase) % 2) 0 ≡ judged count
      unfolding factors_commute
      factors-judged =
          let P = image g.n count words (a / 4) in
          let Q = image g.n count words b in
          let turns = s.factors (a / 4) b product_is in
          let px : x.phase ≡ phase_number P.phase = ap (λ (v : Value). v.phase) x-is ∙ turns.0 in
          let py : y.phase ≡ phase_number Q.phase = ap (λ (v : Value). v.phase) y-is ∙ turns.1 in
          let pz : z.phase ≡ phase_number (P ★ Q).phase = ap (λ (v : Value). v.phase) z-is ∙ s.own
          ∙ ap (λ (R : Row). phase_number R.phase) (product_row g.n count words (node_in w) (a / 4) b low product_is) in
          rw (px, py, pz) (even_commute P Q) ∙ sym (ap (factors_commute g.n count words) product_is)
