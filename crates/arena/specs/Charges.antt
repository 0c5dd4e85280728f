-- What a walk charges (document 01, "Factor pool and work"), from the order in which it evaluates nodes and shows roots, and from the weights of the images alone:
-- 1 a root, 1 a distinct reachable node, the factors of each copy, the smaller factor count of each multiplication, the factors shown at each root.
use Rattle.std.specs.Prelude.{Bool, false, cond, ◌||◌, List, [], ◌∷◌, ◌++◌, ℕ, zero, suc, ◌+◌, min, eqb}
use Rattle.pauli.specs.Rows.{weight}
use Rattle.arena.specs.References.{node_in}
use Rattle.arena.specs.Nodes.{PauliNode, Identity, Single, Product, Malformed, node_at, image}

-- a node is evaluated; the root of a word is shown
pub data Visit : Type 0 where
  evaluates : ℕ → Visit
  shows : ℕ → Visit

-- ---- the visits of a walk, the latest first

abbrev pub evaluated_in : ℕ → List Visit → Bool
evaluated_in i [] = false
evaluated_in i (evaluates j ∷ vs) = eqb i j || evaluated_in i vs
evaluated_in i (shows w ∷ vs) = evaluated_in i vs

-- the left child comes before the right one
abbrev pub children_first : PauliNode → (ℕ → List Visit → List Visit) → List Visit → List Visit
children_first Identity rec vs = vs
children_first (Single q a) rec vs = vs
children_first (Product l r) rec vs = rec (node_in r) (rec (node_in l) vs)
children_first Malformed rec vs = vs

-- a node is evaluated once, after its children; the first number bounds the depth
abbrev pub evaluate : (ℕ → PauliNode) → ℕ → ℕ → List Visit → List Visit
evaluate node zero i vs = vs
evaluate node (suc f) i vs = cond (evaluated_in i vs) vs (evaluates i ∷ children_first (node i) (λ j us. evaluate node f j us) vs)

-- the roots in turn
abbrev pub visits : (ℕ → PauliNode) → ℕ → List ℕ → List Visit → List Visit
visits node depth [] vs = vs
visits node depth (w ∷ ws) vs = visits node depth ws (shows w ∷ evaluate node depth (node_in w) vs)

-- ---- the charges

abbrev pub member : ℕ → List ℕ → Bool
member j [] = false
member j (k ∷ ks) = eqb j k || member j ks

-- the nodes that a node's words name
abbrev pub children : PauliNode → List ℕ
children Identity = []
children (Single q a) = []
children (Product l r) = node_in l ∷ node_in r ∷ []
children Malformed = []

module _ (node : ℕ → PauliNode) (weighs : ℕ → ℕ) where
  abbrev pub used_by : Visit → List ℕ
  used_by (evaluates i) = children (node i)
  used_by (shows w) = node_in w ∷ []

  -- a child that is used again later is copied, otherwise it is moved
  abbrev pub copy_of : ℕ → List ℕ → ℕ
  copy_of w later = cond (member (node_in w) later) (weighs w) 0

  -- the multiplication of a product: its left child is taken, then its right one
  abbrev pub product_charges : PauliNode → List ℕ → List ℕ
  product_charges Identity later = []
  product_charges (Single q a) later = []
  product_charges (Product l r) later = copy_of l (node_in r ∷ later) ∷ copy_of r later ∷ min (weighs l) (weighs r) ∷ []
  product_charges Malformed later = []

  abbrev pub visit_charges : Visit → List ℕ → List ℕ
  visit_charges (evaluates i) later = 1 ∷ product_charges (node i) later
  visit_charges (shows w) later = 1 ∷ weighs w ∷ []

  -- of all visits, where these nodes are used later
  abbrev pub charges : List ℕ → List Visit → List ℕ
  charges later [] = []
  charges later (v ∷ vs) = visit_charges v later ++ charges (used_by v ++ later) vs

abbrev pub sum_of : List ℕ → ℕ
sum_of [] = 0
sum_of (k ∷ ks) = k + sum_of ks

-- the letters other than I in the image of a word
abbrev pub weight_at : ℕ → ℕ → List ℕ → ℕ → ℕ
weight_at n count words w = weight (image n count words w).letters

-- the work of a walk of n qubits over the first `count` nodes in the words, from these roots
unfoldable pub work_of : (n count : ℕ) → (words roots : List ℕ) → ℕ
work_of n count words roots = sum_of (charges (node_at n words) (weight_at n count words) [] (visits (node_at n words) count roots []))
