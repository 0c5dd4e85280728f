-- Which nodes a walk reaches: those that its roots name, and the children of those that it reaches.
use Rattle.std.specs.Prelude.{◌≡◌, ◌⊎◌, List, [], ◌∷◌, ℕ}
use Rattle.arena.specs.References.{node_in}
use Rattle.arena.specs.Nodes.{PauliNode}
use Rattle.arena.specs.Charges.{children}

abbrev pub Among : ℕ → List ℕ → Type 0
Among j [] = ⊥
Among j (k ∷ ks) = (j ≡ k) ⊎ Among j ks

-- from i to j by way of these nodes, each a child of the one before
abbrev pub Leads : (ℕ → PauliNode) → ℕ → List ℕ → ℕ → Type 0
Leads node i [] j = i ≡ j
Leads node i (k ∷ ks) j = Among k (children (node i)) × Leads node k ks j

pub record Reachable (node : ℕ → PauliNode) (roots : List ℕ) (j : ℕ) : Type 0 where
  pub root : ℕ
  pub is_root : Among root roots
  pub by : List ℕ
  pub leads : Leads node (node_in root) by j
