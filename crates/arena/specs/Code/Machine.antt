-- The walk's recursion as a machine: a path of nodes to evaluate, the top first, and one step at a time.
use Rattle.std.specs.Prelude.{Bool, true, false, List, [], ◌∷◌, ℕ, zero, suc}
use Rattle.arena.specs.References.{node_in}
use Rattle.arena.specs.Nodes.{PauliNode, Identity, Single, Product, Malformed}
use Rattle.arena.specs.Sparse.{empty, one}
use Rattle.arena.specs.Walk.{Out, fine, bind, State, lend, finish, combine}

pub record Spot : Type 0 where
  pub path : List ℕ
  pub state : State

abbrev pub spot : List ℕ → State → Spot
spot p s = record { path = p; state = s }

module _ (limit room : ℕ) where
  -- a product, by whether its left and its right child are done: a child that is not done goes on the path, the left one first
  abbrev pub step_product : Bool → Bool → ℕ → ℕ → ℕ → List ℕ → State → Out Spot
  step_product false right l r i p s = fine (spot (node_in l ∷ i ∷ p) s)
  step_product true false l r i p s = fine (spot (node_in r ∷ i ∷ p) s)
  step_product true true l r i p s = bind (combine limit room l r i s) (λ s. fine (spot p s))

  abbrev pub step_node : PauliNode → ℕ → List ℕ → State → Out Spot
  step_node Identity i p s = fine (spot p (finish i empty 0 s))
  step_node (Single q a) i p s = bind (lend room 1 s) (λ s. fine (spot p (finish i (one q a) 1 s)))
  step_node (Product l r) i p s = step_product (s.done (node_in l)) (s.done (node_in r)) l r i p s
  step_node Malformed i p s = fine (spot p (finish i empty 0 s))

  abbrev pub step_unless : Bool → PauliNode → ℕ → List ℕ → State → Out Spot
  step_unless true nd i p s = fine (spot p s)
  step_unless false nd i p s = step_node nd i p s

  -- one look at node i, the top of the path
  abbrev pub step_top : (ℕ → PauliNode) → ℕ → List ℕ → State → Out Spot
  step_top node i p s = step_unless (s.done i) (node i) i p s

  -- at most so many steps
  abbrev pub run_path : (ℕ → PauliNode) → ℕ → List ℕ → State → Out State
  run_path node zero p s = fine s
  run_path node (suc k) [] s = fine s
  run_path node (suc k) (i ∷ p) s = bind (step_top node i p s) (λ q. run_path node k q.path q.state)
