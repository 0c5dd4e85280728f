-- kept: claims, which Theorems.antt takes from here as a module
-- At the start of a walk the nodes with a use are the reachable ones.
use mathlib.Core.Path.{◌≡◌, refl, ap, sym, ◌∙◌, subst}
use mathlib.Core.Logic.{inl, inr}
use mathlib.Core.Bool.{false}
use mathlib.Core.List.{List, [], ◌∷◌, ◌++◌}
use Prim.Native.Nat.{ℕ, zero, suc, ◌+◌, ◌≤◌, ◌<◌}
use native.Mathlib.Nat.{not-suc-le-zero}
use native.Mathlib.Decide.{ℕ_discrete}
use native.Mathlib.Omega.{arith}
use Rattle.arena.specs.References.{node_in}
use Rattle.arena.specs.Nodes.{PauliNode, Identity, Single, Product, Malformed}
use Rattle.arena.specs.Walk.{root_uses, scan, Named}
use Rattle.arena.specs.Charges.{children}
use Rattle.arena.specs.Reachability.{Among, Leads, Reachable}
use Rattle.arena.specs.Code.WalkWords.{edge, edges, owed}
use Rattle.arena.proofs.Walk.Outcomes.{Order, below, same, above, order}
use Rattle.arena.proofs.DecodedNodes.{Fits}
use Rattle.arena.proofs.Walk.Sums.{sum-at}
use Rattle.arena.proofs.Walk.Uses.{owed-reached, edge_same, edge_other, plus-edge, edges-low, scan-uses}
use Rattle.arena.proofs.Walk.Ends.{sum-some, owed-some}

-- ---- a child word that names j, and a root that does

edge-named : (w j : ℕ) → 0 < edge w j → j ≡ node_in w
edge-named w j h = go (ℕ_discrete j (node_in w))
  where
    go : Dec (j ≡ node_in w) → j ≡ node_in w
    go (yes e) = e
    go (no ne) = absurd (omega (arith, edge_other w j ne))

named-edge : (w j : ℕ) → j ≡ node_in w → edge w j ≡ 1
named-edge w j e = ap (edge w) e ∙ edge_same w

children-named : (nd : PauliNode) (j : ℕ) → 0 < edges nd j → Among j (children nd)
children-named Identity j h = absurd (not-suc-le-zero h)
children-named (Single q a) j h = absurd (not-suc-le-zero h)
children-named (Product l r) j h = go (ℕ_discrete j (node_in l))
  where
    go : Dec (j ≡ node_in l) → Among j (node_in l ∷ node_in r ∷ [])
    go (yes e) = inl e
    go (no ne) = inr (inl (edge-named r j (omega (arith, edge_other l j ne))))
children-named Malformed j h = absurd (not-suc-le-zero h)

named-children : (nd : PauliNode) (j : ℕ) → Among j (children nd) → 0 < edges nd j
named-children Identity j m = absurd m
named-children (Single q a) j m = absurd m
named-children (Product l r) j (inl e) = omega (arith, named-edge l j e)
named-children (Product l r) j (inr (inl e)) = omega (arith, named-edge r j e)
named-children (Product l r) j (inr (inr m)) = absurd m
named-children Malformed j m = absurd m

roots_named : (ws : List ℕ) (j : ℕ) → 0 < root_uses ws j → (w : ℕ) × Among w ws × (node_in w ≡ j)
roots_named [] j h = absurd (not-suc-le-zero h)
roots_named (w ∷ ws) j h = go (ℕ_discrete j (node_in w)) (roots_named ws j)
  where
    go : Dec (j ≡ node_in w) → (0 < root_uses ws j → (v : ℕ) × Among v ws × (node_in v ≡ j)) → (v : ℕ) × Among v (w ∷ ws) × (node_in v ≡ j)
    go (yes e) ih = (w, inl refl, sym e)
    go (no ne) ih = let r = ih (omega (arith, plus-edge w j (root_uses ws), edge_other w j ne)) in (r.0, inr r.1, r.2)

named_roots : (ws : List ℕ) (w : ℕ) → Among w ws → 0 < root_uses ws (node_in w)
named_roots [] w m = absurd m
named_roots (v ∷ ws) w (inl e) = omega (arith, plus-edge v (node_in w) (root_uses ws), named-edge v (node_in w) (ap node_in e))
named_roots (v ∷ ws) w (inr m) = omega (arith, plus-edge v (node_in w) (root_uses ws), named_roots ws w m)

named_low : (count : ℕ) (ws : List ℕ) (w : ℕ) → Named count ws → Among w ws → node_in w < count
named_low count [] w h m = absurd m
named_low count (v ∷ ws) w h (inl e) = subst (λ k. node_in k < count) (sym e) h.0
named_low count (v ∷ ws) w h (inr m) = named_low count ws w h.1 m

leads_on : (node : ℕ → PauliNode) (i : ℕ) (ks : List ℕ) (j k : ℕ) → Leads node i ks j → Among k (children (node j)) → Leads node i (ks ++ k ∷ []) k
leads_on node i [] j k e m = (subst (λ a. Among k (children (node a))) (sym e) m, refl)
leads_on node i (a ∷ ks) j k h m = (h.0, leads_on node a ks j k h.1 m)

module _ (n count : ℕ) (node : ℕ → PauliNode) (fits : (i : ℕ) → Fits n i (node i)) (roots : List ℕ) where
  abbrev all : ℕ → ℕ
  all = (scan node count (root_uses roots)).uses

  used_reachable : (d j : ℕ) → count ≤ j + d → j < count → 0 < all j → Reachable node roots j
  used_reachable zero j h hj u = absurd (omega arith)
  used_reachable (suc d) j h hj u = go (root_uses roots j) refl (λ i hi. used_reachable d i hi)
    where
      go : (m : ℕ) → root_uses roots j ≡ m → ((i : ℕ) → count ≤ i + d → i < count → 0 < all i → Reachable node roots i) → Reachable node roots j
      go (suc m) e ih = let r = roots_named roots j (omega arith) in record { root = r.0; is_root = r.1; by = []; leads = r.2 }
      go zero e ih =
          let x = sum-some count (λ i. owed false (all i) (edges (node i) j)) (omega (arith, scan-uses n node fits count (root_uses roots) j)) in
          let y = owed-some (all x.0) (edges (node x.0) j) x.2 in
          parent x.0 x.1 y.0 y.1 (order x.0 j)
        where
          parent : (i : ℕ) → i < count → 0 < all i → 0 < edges (node i) j → Order i j → Reachable node roots j
          parent i hi ui ei (above l) = let r = ih i (omega arith) hi ui in
              record { root = r.root; is_root = r.is_root; by = r.by ++ j ∷ []; leads = leads_on node (node_in r.root) r.by i j r.leads (children-named (node i) j ei) }
          parent i hi ui ei (below l) = absurd (omega (arith, edges-low n i j (node i) (fits i) (omega arith)))
          parent i hi ui ei (same q) = absurd (omega (arith, edges-low n i j (node i) (fits i) (omega arith)))

  child_low : (i k : ℕ) → i < count → 0 < edges (node i) k → k < count
  child_low i k l h = go (order i k)
    where
      go : Order i k → k < count
      go (above m) = omega arith
      go (below m) = absurd (omega (arith, edges-low n i k (node i) (fits i) (omega arith)))
      go (same q) = absurd (omega (arith, edges-low n i k (node i) (fits i) (omega arith)))

  leads_used : (i : ℕ) (ks : List ℕ) (j : ℕ) → i < count → 0 < all i → Leads node i ks j → 0 < all j
  leads_used i [] j l u e = subst (λ k. 0 < all k) e u
  leads_used i (k ∷ ks) j l u h =
      let m = named-children (node i) k h.0 in
      leads_used k ks j (child_low i k l m)
      (omega (arith, scan-uses n node fits count (root_uses roots) k, sum-at count (λ a. owed false (all a) (edges (node a) k)) i l, owed-reached (all i) (edges (node i) k) u, m)) h.1

  reachable_used : Named count roots → (j : ℕ) → Reachable node roots j → 0 < all j
  reachable_used h j r = leads_used (node_in r.root) r.by j (named_low count roots r.root h r.is_root)
      (omega (arith, scan-uses n node fits count (root_uses roots) (node_in r.root), named_roots roots r.root r.is_root)) r.leads

  pub reached_both : Named count roots → (j : ℕ) → j < count → (0 < all j → Reachable node roots j) × (Reachable node roots j → 0 < all j)
  reached_both h j l = (used_reachable count j (omega arith) l, reachable_used h j)
