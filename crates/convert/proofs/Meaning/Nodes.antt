-- Appending nodes changes no older image; a product's image is the product.
use mathlib.Core.Path.{◌≡◌, ap, ap₂, sym, ◌∙◌}
use mathlib.Core.List.{List, [], ◌∷◌, ◌++◌}
use Prim.Native.Nat.{ℕ, suc, ◌+◌, ◌*◌, ◌≤◌, ◌<◌}
use native.Mathlib.Omega.{arith}
use lib.ListN.{length, get_or, take}
use lib.Seq.{get_or_at, get_or-append-add, take_at, take_all}
use Rattle.pauli.specs.Letters.{phase_number}
use Rattle.pauli.specs.Rows.{◌★◌, scaled}
use Rattle.arena.specs.References.{scaled_word}
use Rattle.arena.specs.Nodes.{product_word, decode, node_at, row_of, values, image}
use Rattle.arena.proofs.NodeRows.{image-older, image-of_node, product_decodes, image-scaled}
use Rattle.convert.specs.Types.{Phase, One, PlusI, MinusOne, MinusI}

phase_word : (k : ℕ) (p : Phase) → 4 * k + phase_number p ≡ scaled_word p (4 * k)
phase_word k One = omega arith
phase_word k PlusI = omega arith
phase_word k MinusOne = omega arith
phase_word k MinusI = omega arith

pub phase_small : (p : Phase) → phase_number p < 4
phase_small One = omega arith
phase_small PlusI = omega arith
phase_small MinusOne = omega arith
phase_small MinusI = omega arith

module _ (n k : ℕ) (ws : List ℕ) (even : length ws ≡ 2 * k) where
  front : (more : List ℕ) → take (2 * k) ws ≡ take (2 * k) (ws ++ more)
  front more = take_all (2 * k) ws (omega arith) ∙ sym (take_at ws more (2 * k) even)

  pub image-append : (m : ℕ) (more : List ℕ) (w : ℕ) → k ≤ m → w < 4 * k → image n m (ws ++ more) w ≡ image n k ws w
  image-append m more w le lt = image-older n k m ws (ws ++ more) w (omega arith) le (front more)

  product_node : (l r : ℕ) → node_at n (ws ++ product_word l ∷ r ∷ []) k ≡ decode n k (product_word l) r
  unfolding node_at
  product_node l r = ap₂ (decode n k) (get_or_at ws (product_word l) (r ∷ []) 0 (2 * k) even)
      (ap (λ m. get_or (ws ++ product_word l ∷ r ∷ []) m 0) (omega arith) ∙ get_or-append-add ws (product_word l ∷ r ∷ []) 1 0)

  -- the image of a product that is pushed
  pub image-product : (l r : ℕ) (p : Phase) → l < 4 * k → r < 4 * k
      → image n (suc k) (ws ++ product_word l ∷ r ∷ []) (4 * k + phase_number p) ≡ scaled p (image n k ws l ★ image n k ws r)
  unfolding image
  image-product l r p hl hr =
      ap (image n (suc k) vs) (phase_word k p) ∙ image-scaled n (suc k) vs p (4 * k)
      ∙ ap (scaled p) (image-of_node n (suc k) vs k (omega arith)
      ∙ ap (row_of n (values n (suc k) vs)) (product_node l r ∙ product_decodes n k l r (omega arith) (omega arith))
      ∙ ap₂ ◌★◌ (image-append (suc k) (product_word l ∷ r ∷ []) l (omega arith) hl) (image-append (suc k) (product_word l ∷ r ∷ []) r (omega arith) hr))
    where
      vs : List ℕ
      vs = ws ++ product_word l ∷ r ∷ []
