-- Bounds on factors and uses, for numbers of 32 bits.
use mathlib.Core.Bool.{Bool, true, false, cond}
use mathlib.Core.List.{List, [], ◌∷◌}
use Prim.Native.Nat.{ℕ, zero, suc, ◌+◌, ◌*◌, ◌≤◌}
use native.Mathlib.Omega.{arith}
use lib.Dec.{eqb}
use lib.ListN.{length}
use Rattle.arena.specs.References.{node_in}
use Rattle.arena.specs.Nodes.{PauliNode, Identity, Single, Product, Malformed}
use Rattle.arena.specs.Sparse.{Factor, Sparse, size}
use Rattle.arena.specs.Walk.{root_uses, scan}
use Rattle.arena.specs.Code.WalkWords.{sum, edge, edges, owed, Rising, Ordered}
use Rattle.arena.proofs.DecodedNodes.{Fits}
use Rattle.arena.proofs.Walk.Uses.{plus-edge, scan-uses}

-- no more factors than qubits
pub rising_few : (lo hi : ℕ) (fs : List Factor) → lo ≤ hi → Rising lo hi fs → lo + length fs ≤ hi
rising_few lo hi [] h r = omega arith
rising_few lo hi (f ∷ fs) h r = omega (arith, r.0, rising_few (suc f.qubit) hi fs r.1 r.3)

pub size_few : (n : ℕ) (v : Sparse) → Ordered n v → size v ≤ n
size_few n v r = omega (arith, rising_few 0 n v.factors (omega arith) r)

-- a word names a node at most once, a node at most twice
pub edge_few : (w j : ℕ) → edge w j ≤ 1
edge_few w j = go (eqb j (node_in w))
  where
    go : (b : Bool) → cond b 1 0 ≤ 1
    go true = omega arith
    go false = omega arith

pub edges_few : (nd : PauliNode) (j : ℕ) → edges nd j ≤ 2
edges_few Identity j = omega arith
edges_few (Single q a) j = omega arith
edges_few (Product l r) j = omega (arith, edge_few l j, edge_few r j)
edges_few Malformed j = omega arith

owed-few : (u k : ℕ) → k ≤ 2 → owed false u k ≤ 2
owed-few zero k h = omega arith
owed-few (suc u) k h = h

sum-few : (k : ℕ) (f : ℕ → ℕ) → ((i : ℕ) → f i ≤ 2) → sum k f ≤ 2 * k
sum-few zero f h = omega arith
sum-few (suc k) f h = omega (arith, sum-few k f h, h k)

-- the uses are at most the roots and two for each node
pub roots_few : (ws : List ℕ) (j : ℕ) → root_uses ws j ≤ length ws
roots_few [] j = omega arith
roots_few (w ∷ ws) j = omega (arith, plus-edge w j (root_uses ws), roots_few ws j, edge_few w j)

pub uses_few : (n count : ℕ) (node : ℕ → PauliNode) → ((i : ℕ) → Fits n i (node i)) → (roots : List ℕ) (j : ℕ)
    → (scan node count (root_uses roots)).uses j ≤ length roots + 2 * count
uses_few n count node fits roots j =
    let u = (scan node count (root_uses roots)).uses in
    omega (
      arith,
      scan-uses n node fits count (root_uses roots) j,
      roots_few roots j,
      sum-few count (λ i. owed false (u i) (edges (node i) j)) (λ i. owed-few (u i) (edges (node i) j) (edges_few (node i) j)),
    )
