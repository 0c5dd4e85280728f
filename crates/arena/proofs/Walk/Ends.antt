-- After an accepted walk no use is left, and no record is held.
use mathlib.Core.Path.{◌≡◌, refl, ap, sym, ◌∙◌, subst}
use mathlib.Core.Bool.{Bool, true, false, cond}
use mathlib.Core.List.{List, [], ◌∷◌}
use Prim.Native.Nat.{ℕ, zero, suc, ◌+◌, ◌≤◌, ◌<◌}
use native.Mathlib.Nat.{not-suc-le-zero}
use native.Mathlib.Decide.{ℕ_discrete}
use native.Mathlib.Omega.{arith}
use borrow.Author.Tests.{eqb-true, eqb-false}
use lib.Dec.{eqb}
use lib.ListN.{length}
use Rattle.arena.specs.References.{node_in}
use Rattle.arena.specs.Nodes.{PauliNode, Identity, Single, Product, Malformed, node_at}
use Rattle.arena.specs.Sparse.{empty, one, size}
use Rattle.arena.specs.Walk.{Out, fine, update, State, root_uses, scan, worked, lent, less, finish, give_back, release, walk_begin, Walked, combine, eval_node, eval_unless, eval, show_roots, walk_nodes, Named}
use Rattle.arena.specs.Code.WalkWords.{sum, edge, edges, owed, kept, none, Inv}
use Rattle.arena.proofs.Walk.Outcomes.{Order, below, same, above, order, update_other, update-keeps, Post, post-bind, post_map, post-fine, post_and, charge-then, lend-then}
use Rattle.arena.proofs.DecodedNodes.{Fits, node_fits}
use Rattle.arena.proofs.Walk.Sums.{sum-zero}
use Rattle.arena.proofs.Walk.Uses.{edge_other, plus-edge, edges-low, scan-uses}
use Rattle.arena.proofs.Walk.Means.{show_post, begin_inv}
use Rattle.arena.proofs.Walk.MachineSteps.{Marks, combine-done, eval-marks}

pub record Empty (t : State) : Type 0 where
  pub no_use : (j : ℕ) → t.uses j ≡ 0
  pub no_record : t.held ≡ 0

-- the children of a done node are done
abbrev pub Closed : (ℕ → PauliNode) → State → Type 0
Closed node s = (i j : ℕ) → s.done i ≡ true → 0 < edges (node i) j → s.done j ≡ true

closed_mark : (node : ℕ → PauliNode) (i : ℕ) (s t : State) → Closed node s → t.done ≡ update s.done i true
    → ((j : ℕ) → 0 < edges (node i) j → s.done j ≡ true) → Closed node t
closed_mark node i s t c e kids k j d h = go (eqb k i) refl
  where
    go : (b : Bool) → eqb k i ≡ b → t.done j ≡ true
    go true q = ap (λ f. f j) e ∙ update-keeps s.done i j
        (kids j (subst (λ m. 0 < edges (node m) j) (eqb-true k i q) h))
    go false q = ap (λ f. f j) e ∙ update-keeps s.done i j
        (c k j (sym (update_other s.done i true k (eqb-false k i q)) ∙ sym (ap (λ f. f k) e) ∙ d) h)

-- a product's children are the two that its words name
kids_are : (l r j : ℕ) (s : State) → s.done (node_in l) ≡ true → s.done (node_in r) ≡ true → 0 < edge l j + edge r j → s.done j ≡ true
kids_are l r j s dl dr h = go (ℕ_discrete j (node_in l)) (ℕ_discrete j (node_in r))
  where
    go : Dec (j ≡ node_in l) → Dec (j ≡ node_in r) → s.done j ≡ true
    go (yes e) q = rw e dl
    go (no a) (yes e) = rw e dr
    go (no a) (no b) = absurd (omega (arith, edge_other l j a, edge_other r j b))

release-done : (j : ℕ) (s : State) → (release j s).done ≡ s.done
release-done j s = go (eqb (s.uses j) 1)
  where
    go : (b : Bool) → (cond b (give_back (size (s.value j)) (less j s)) (less j s)).done ≡ s.done
    go true = refl
    go false = refl

-- showing the roots ws from s on left r
pub record Ended (node : ℕ → PauliNode) (ws : List ℕ) (s : State) (r : Walked) : Type 0 where
  pub closed : Closed node r.state
  pub still : (j : ℕ) → s.done j ≡ true → r.state.done j ≡ true
  pub roots_done : (j : ℕ) → 0 < root_uses ws j → r.state.done j ≡ true

module _ (limit room n : ℕ) (node : ℕ → PauliNode) (fits : (i : ℕ) → Fits n i (node i)) where
  eval-closed : (f i : ℕ) (s : State) → i < f → Closed node s → Post (eval limit room node f i s) (Closed node)
  eval-closed zero i s h c = absurd (not-suc-le-zero h)
  eval-closed (suc f) i s h c =
      unless (s.done i) (λ j t l. eval-closed f j t (omega arith)) (λ j t l. eval-marks limit room n node fits f j t (omega arith))
    where
      rec : ℕ → State → Out State
      rec j t = eval limit room node f j t

      childless : (nd : PauliNode) → node i ≡ nd → ((j : ℕ) → edges nd j ≡ 0) → (j : ℕ) → 0 < edges (node i) j → s.done j ≡ true
      childless nd e none j k = absurd (omega (arith, none j, subst (λ nd. 0 < edges nd j) e k))

      by-node : (nd : PauliNode) → node i ≡ nd → Fits n i nd
          → ((j : ℕ) (t : State) → j < i → Closed node t → Post (rec j t) (Closed node)) → ((j : ℕ) (t : State) → j < i → Post (rec j t) (Marks j t))
          → Post (eval_node limit room nd rec i s) (Closed node)
      by-node Identity e fit ih mh = closed_mark node i s (finish i empty 0 s) c refl (childless Identity e (λ j. refl))
      by-node (Single q a) e fit ih mh = lend-then room 1 s _ (Closed node) (λ w.
          closed_mark node i s (finish i (one q a) 1 (lent 1 s)) c refl (childless (Single q a) e (λ j. refl)))
      by-node (Product l r) e fit ih mh =
          post-bind (rec (node_in l) s) _ _ (Closed node)
          (post_and (rec (node_in l) s) _ _ (ih (node_in l) s fit.0 c) (mh (node_in l) s fit.0)) (λ t g.
          post-bind (rec (node_in r) t) _ _ (Closed node)
          (post_and (rec (node_in r) t) _ _ (ih (node_in r) t fit.1 g.0) (mh (node_in r) t fit.1)) (λ u k.
          post_map (combine limit room l r i u) _ (Closed node) (combine-done limit room l r i u) (λ v q.
          closed_mark node i u v k.0 q (λ j m.
          kids_are l r j u (k.1.still (node_in l) g.1.marked) k.1.marked (subst (λ nd. 0 < edges nd j) e m)))))
      by-node Malformed e fit ih mh = closed_mark node i s (finish i empty 0 s) c refl (childless Malformed e (λ j. refl))

      unless : (b : Bool)
          → ((j : ℕ) (t : State) → j < i → Closed node t → Post (rec j t) (Closed node)) → ((j : ℕ) (t : State) → j < i → Post (rec j t) (Marks j t))
          → Post (eval_unless limit room b (node i) rec i s) (Closed node)
      unless true ih mh = c
      unless false ih mh = by-node (node i) refl (fits i) ih mh

  pub show_ends : (count : ℕ) (ws : List ℕ) (s : State) → Named count ws → Closed node s → Post (show_roots limit room node count ws s) (Ended node ws s)
  show_ends count [] s h c = record { closed = c; still = λ j d. d; roots_done = λ j k. absurd (not-suc-le-zero k) }
  show_ends count (w ∷ ws) s h c =
      post-bind (eval limit room node count (node_in w) s) _ _ (Ended node (w ∷ ws) s)
      (post_and (eval limit room node count (node_in w) s) _ _ (eval-closed count (node_in w) s h.0 c) (eval-marks limit room n node fits count (node_in w) s h.0)) (λ t g.
      charge-then limit (size (t.value (node_in w))) t _ (Ended node (w ∷ ws) s) (λ paid.
      let u = release (node_in w) (worked (size (t.value (node_in w))) t) in
      let q : u.done ≡ t.done = release-done (node_in w) (worked (size (t.value (node_in w))) t) in
      post-bind (show_roots limit room node count ws u) _ _ (Ended node (w ∷ ws) s)
      (show_ends count ws u h.1 (λ i j d k. ap (λ f. f j) q ∙ g.0 i j (sym (ap (λ f. f i) q) ∙ d) k)) (λ r e.
      record {
        closed = e.closed;
        still = λ j d. e.still j (ap (λ f. f j) q ∙ g.1.still j d);
        roots_done = λ j k. named j t u r.state k e.still e.roots_done q g.1.marked (ℕ_discrete j (node_in w));
      })))
    where
      named : (j : ℕ) (t u v : State) → 0 < root_uses (w ∷ ws) j → ((j : ℕ) → u.done j ≡ true → v.done j ≡ true)
          → ((j : ℕ) → 0 < root_uses ws j → v.done j ≡ true) → u.done ≡ t.done → t.done (node_in w) ≡ true → Dec (j ≡ node_in w) → v.done j ≡ true
      named j t u v k keep more q d (yes e) = keep j (ap (λ f. f j) q ∙ rw e d)
      named j t u v k keep more q d (no ne) = more j (omega (arith, plus-edge w j (root_uses ws), edge_other w j ne))

-- ---- nothing is left

pub sum-some : (k : ℕ) (f : ℕ → ℕ) → 0 < sum k f → (i : ℕ) × (i < k) × (0 < f i)
sum-some zero f h = absurd (not-suc-le-zero h)
sum-some (suc k) f h = go (f k) refl (sum-some k f)
  where
    go : (m : ℕ) → f k ≡ m → (0 < sum k f → (i : ℕ) × (i < k) × (0 < f i)) → (i : ℕ) × (i < suc k) × (0 < f i)
    go zero e ih = let r = ih (omega arith) in (r.0, omega (arith, r.1), r.2)
    go (suc m) e ih = (k, omega arith, omega arith)

pub owed-some : (u k : ℕ) → 0 < owed false u k → (0 < u) × (0 < k)
owed-some zero k h = absurd (not-suc-le-zero h)
owed-some (suc u) k h = (omega arith, h)

module _ (limit room n count : ℕ) (node : ℕ → PauliNode) (fits : (i : ℕ) → Fits n i (node i)) (roots : List ℕ) where
  abbrev pub total : ℕ → ℕ
  total = (scan node count (root_uses roots)).uses

  -- every reachable node is done
  pub reached_done : (t : State) → Closed node t → ((j : ℕ) → 0 < root_uses roots j → t.done j ≡ true)
      → (d j : ℕ) → count ≤ j + d → j < count → 0 < total j → t.done j ≡ true
  reached_done t c r zero j h hj u = absurd (omega arith)
  reached_done t c r (suc d) j h hj u = go (root_uses roots j) refl (λ i hi. reached_done t c r d i hi)
    where
      go : (m : ℕ) → root_uses roots j ≡ m → ((i : ℕ) → count ≤ i + d → i < count → 0 < total i → t.done i ≡ true) → t.done j ≡ true
      go (suc m) e ih = r j (omega arith)
      go zero e ih =
          let x = sum-some count (λ i. owed false (total i) (edges (node i) j)) (omega (arith, scan-uses n node fits count (root_uses roots) j)) in
          let y = owed-some (total x.0) (edges (node x.0) j) x.2 in
          c x.0 j (parent x.0 x.1 y.0 y.1 (order x.0 j)) y.1
        where
          parent : (i : ℕ) → i < count → 0 < total i → 0 < edges (node i) j → Order i j → t.done i ≡ true
          parent i hi ui ei (above l) = ih i (omega arith) hi ui
          parent i hi ui ei (below l) = absurd (omega (arith, edges-low n i j (node i) (fits i) (omega arith)))
          parent i hi ui ei (same q) = absurd (omega (arith, edges-low n i j (node i) (fits i) (omega arith)))

  pub ends-empty : (t : State) → Closed node t → ((j : ℕ) → 0 < root_uses roots j → t.done j ≡ true)
      → Inv limit room n count node total none none 0 t → Empty t
  ends-empty t c r inv = record {
    no_use = no-use;
    no_record = omega (
      arith,
      inv.holds,
      sum-zero count (λ j. kept (t.done j) (t.uses j) (size (t.value j))) (λ j l.
          gone (t.done j) (t.uses j) (size (t.value j)) (no-use j)),
    );
  }
    where
      paid : (i : ℕ) → i < count → (m : ℕ) → total i ≡ m → (k : ℕ) → owed (t.done i) (total i) k ≡ 0
      paid i l zero e k = ap (λ u. owed (t.done i) u k) e ∙ free (t.done i)
        where
          free : (b : Bool) → owed b 0 k ≡ 0
          free true = refl
          free false = refl
      paid i l (suc m) e k = ap (λ b. owed b (total i) k) (reached_done t c r count i (omega arith) l (omega arith))

      no-use : (j : ℕ) → t.uses j ≡ 0
      no-use j = omega (
        arith,
        inv.counts j,
        sum-zero count (λ i. owed (t.done i) (total i) (edges (node i) j)) (λ i l.
            paid i l (total i) refl (edges (node i) j)),
      )

      gone : (b : Bool) (u k : ℕ) → u ≡ 0 → kept b u k ≡ 0
      gone true zero k e = refl
      gone true (suc u) k e = absurd (omega arith)
      gone false u k e = refl

  -- an accepted walk leaves no use and holds no record
  pub walk-empty : Named count roots → Post (walk_nodes limit room node count roots) (λ r. Empty r.state)
  walk-empty h =
      let c = scan node count (root_uses roots) in
      charge-then limit (length roots + c.reached) (walk_begin c) _ (λ r. Empty r.state) (λ paid.
      let s = worked (length roots + c.reached) (walk_begin c) in
      post_map (show_roots limit room node count roots s) _ (λ r. Empty r.state)
      (post_and (show_roots limit room node count roots s) _ _
      (show_ends limit room n node fits count roots s h (λ i j d k. let z : ◌≡◌ {A = ℕ} 0 1 = cc in absurd (omega arith)))
      (show_post limit room n count node fits c.uses roots s h (begin_inv limit room n count node fits roots (length roots + c.reached) paid)))
      (λ r k. ends-empty r.state k.0.closed k.0.roots_done k.1.1))

pub accepted-empty : (limit room n count : ℕ) (words roots : List ℕ) (r : Walked) → Named count roots → walk_nodes limit room (node_at n words) count roots ≡ fine r
    → Empty r.state
accepted-empty limit room n count words roots r h e = post-fine (λ r. Empty r.state) e (walk-empty limit room n count (node_at n words) (node_fits n words) roots h)
