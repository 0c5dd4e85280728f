-- What the scan counts: a use for each root, and one for each child word of a node that is reachable, which is one with a use.
use mathlib.Core.Path.{◌≡◌, refl, ap, ◌∙◌}
use mathlib.Core.Bool.{Bool, true, false, cond}
use Prim.Native.Nat.{ℕ, zero, suc, ◌+◌, ◌≤◌, ◌<◌}
use native.Mathlib.Nat.{not-suc-le-zero}
use native.Mathlib.Omega.{arith}
use borrow.Author.Tests.{eqb-true, eq-eqb, ne_eqb}
use lib.Dec.{eqb}
use Rattle.arena.specs.References.{node_in}
use Rattle.arena.specs.Nodes.{PauliNode, Identity, Single, Product, Malformed}
use Rattle.arena.specs.Walk.{plus_one, child_uses, scan_node, scan}
use Rattle.arena.specs.Code.WalkWords.{edge, edges, owed, sum}
use Rattle.arena.proofs.DecodedNodes.{Fits}

pub owed-reached : (u k : ℕ) → 0 < u → owed false u k ≡ k
owed-reached zero k h = absurd (not-suc-le-zero h)
owed-reached (suc u) k h = refl

pub edge_same : (w : ℕ) → edge w (node_in w) ≡ 1
edge_same w = rw (eq-eqb (node_in w) (node_in w) refl)

pub edge_other : (w j : ℕ) → (j ≡ node_in w → ⊥) → edge w j ≡ 0
edge_other w j h = rw (ne_eqb j (node_in w) h)

pub plus-edge : (w j : ℕ) (u : ℕ → ℕ) → plus_one (node_in w) u j ≡ u j + edge w j
plus-edge w j u = go (eqb j (node_in w)) refl
  where
    go : (b : Bool) → eqb j (node_in w) ≡ b → cond b (suc (u (node_in w))) (u j) ≡ u j + cond b 1 0
    go true e = omega (arith, ap u (eqb-true j (node_in w) e))
    go false e = omega arith

pub child-edges : (nd : PauliNode) (u : ℕ → ℕ) (j : ℕ) → child_uses nd u j ≡ u j + edges nd j
child-edges Identity u j = omega arith
child-edges (Single q a) u j = omega arith
child-edges (Product l r) u j = omega (arith, plus-edge r j (plus_one (node_in l) u), plus-edge l j u)
child-edges Malformed u j = omega arith

-- a node names only nodes before it
pub edges-low : (n i j : ℕ) (nd : PauliNode) → Fits n i nd → i ≤ j → edges nd j ≡ 0
edges-low n i j Identity f h = refl
edges-low n i j (Single q a) f h = refl
edges-low n i j (Product l r) f h = omega (arith, edge_other l j (λ e. omega (arith, f.0)), edge_other r j (λ e. omega (arith, f.1)))
edges-low n i j Malformed f h = refl

-- 1 for a count above 0
abbrev pub counted : ℕ → ℕ
counted zero = 0
counted (suc m) = 1

-- ---- the scan

module _ (n : ℕ) (node : ℕ → PauliNode) (fits : (i : ℕ) → Fits n i (node i)) where
  -- the scan below k leaves the counts from k on
  scan-top : (k : ℕ) (u : ℕ → ℕ) (j : ℕ) → k ≤ j → (scan node k u).uses j ≡ u j
  scan-top zero u j h = refl
  scan-top (suc k) u j h = go (u k) (λ v. scan-top k v j (omega arith))
    where
      go : (m : ℕ) → ((v : ℕ → ℕ) → (scan node k v).uses j ≡ v j) → (scan_node m (node k) (λ v. scan node k v) u).uses j ≡ u j
      go zero ih = ih u
      go (suc m) ih = ih (child_uses (node k) u) ∙ child-edges (node k) u j ∙ omega (arith, edges-low n k j (node k) (fits k) (omega arith))

  -- nor does node k use itself
  scan-here : (k : ℕ) (u : ℕ → ℕ) → (scan node k (child_uses (node k) u)).uses k ≡ u k
  scan-here k u = omega (arith, scan-top k (child_uses (node k) u) k (omega arith), child-edges (node k) u k, edges-low n k k (node k) (fits k) (omega arith))

  -- the uses after the scan: those before it, and the child words of reachable nodes
  pub scan-uses : (k : ℕ) (u : ℕ → ℕ) (j : ℕ) → (scan node k u).uses j ≡ u j + sum k (λ i. owed false ((scan node k u).uses i) (edges (node i) j))
  scan-uses zero u j = omega arith
  scan-uses (suc k) u j = go (u k) refl (λ v. scan-uses k v j)
    where
      go : (m : ℕ) → u k ≡ m → ((v : ℕ → ℕ) → (scan node k v).uses j ≡ v j + sum k (λ i. owed false ((scan node k v).uses i) (edges (node i) j)))
          → let c = scan_node m (node k) (λ v. scan node k v) u in
          c.uses j ≡ u j + (sum k (λ i. owed false (c.uses i) (edges (node i) j)) + owed false (c.uses k) (edges (node k) j))
      go zero e ih = rw (scan-top k u k (omega arith) ∙ e) (omega (arith, ih u))
      go (suc m) e ih = rw (scan-here k u ∙ e) (omega (arith, ih (child_uses (node k) u), child-edges (node k) u j))

  -- the nodes reached are those with a use
  pub scan-reached : (k : ℕ) (u : ℕ → ℕ) → (scan node k u).reached ≡ sum k (λ i. counted ((scan node k u).uses i))
  scan-reached zero u = refl
  scan-reached (suc k) u = go (u k) refl (λ v. scan-reached k v)
    where
      go : (m : ℕ) → u k ≡ m → ((v : ℕ → ℕ) → (scan node k v).reached ≡ sum k (λ i. counted ((scan node k v).uses i)))
          → let c = scan_node m (node k) (λ v. scan node k v) u in c.reached ≡ sum k (λ i. counted (c.uses i)) + counted (c.uses k)
      go zero e ih = rw (scan-top k u k (omega arith) ∙ e) (omega (arith, ih u))
      go (suc m) e ih = rw (scan-here k u ∙ e) (omega (arith, ih (child_uses (node k) u)))
