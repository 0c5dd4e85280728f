-- What an accepted walk shows: each root's image.
use mathlib.Core.Path.{◌≡◌, refl, ap, ap₂, sym, ◌∙◌}
use mathlib.Core.Bool.{Bool, true, false, cond}
use mathlib.Core.List.{List, [], ◌∷◌, map}
use Prim.Native.Nat.{ℕ, ◌+◌, ◌≤◌, ◌<◌}
use native.Mathlib.Omega.{arith}
use borrow.Author.Tests.{eqb-true, eqb-false}
use lib.Dec.{eqb}
use lib.ListN.{length}
use Rattle.pauli.specs.Rows.{weight}
use Rattle.arena.specs.References.{node_in}
use Rattle.arena.specs.Nodes.{PauliNode, node_at, image_in, rows_to, values, image}
use Rattle.arena.specs.Sparse.{Sparse, size, dense}
use Rattle.arena.specs.Walk.{fine, State, root_uses, scan, worked, less, give_back, release, walk_begin, eval, show_roots, walk_nodes, Answer, walk, Named}
use Rattle.arena.specs.Code.WalkWords.{none, Inv}
use Rattle.arena.proofs.Walk.Outcomes.{suc-of, Post, post-bind, post_map, post-fine, charge-then}
use Rattle.arena.proofs.DecodedNodes.{Fits, node_fits}
use Rattle.arena.proofs.SparseProducts.{size-weight}
use Rattle.arena.proofs.Walk.Sums.{sum-zero}
use Rattle.arena.proofs.Walk.Uses.{edge_same, plus-edge, scan-uses}
use Rattle.arena.proofs.Walk.Invariant.{Shows, inv-worked, less-last, less-more, right_shows}
use Rattle.arena.proofs.Walk.Evaluates.{Good, eval-post}

-- every root's value is shown
abbrev pub AllShow : ℕ → ℕ → (ℕ → PauliNode) → List ℕ → List Sparse → Type 0
AllShow n count node [] [] = Unit {0}
AllShow n count node [] (v ∷ vs) = ⊥
AllShow n count node (w ∷ ws) [] = ⊥
AllShow n count node (w ∷ ws) (v ∷ vs) = Shows n count node w v × AllShow n count node ws vs

images_are : (n count : ℕ) (node : ℕ → PauliNode) (ws : List ℕ) (vs : List Sparse) → AllShow n count node ws vs
    → map (dense n) vs ≡ map (image_in n (rows_to n node count)) ws
images_are n count node [] [] h = refl
images_are n count node [] (v ∷ vs) h = absurd h
images_are n count node (w ∷ ws) [] h = absurd h
images_are n count node (w ∷ ws) (v ∷ vs) h = ap₂ ◌∷◌ h.0.means (images_are n count node ws vs h.1)

weights_are : (n count : ℕ) (node : ℕ → PauliNode) (ws : List ℕ) (vs : List Sparse) → AllShow n count node ws vs
    → map size vs ≡ map (λ w. weight (image_in n (rows_to n node count) w).letters) ws
weights_are n count node [] [] h = refl
weights_are n count node [] (v ∷ vs) h = absurd h
weights_are n count node (w ∷ ws) [] h = absurd h
weights_are n count node (w ∷ ws) (v ∷ vs) h =
    ap₂ ◌∷◌ (sym (size-weight n v h.0.proper) ∙ ap (λ P. weight P.letters) h.0.means) (weights_are n count node ws vs h.1)

-- ---- the roots in turn

module _ (limit room n count : ℕ) (node : ℕ → PauliNode) (fits : (i : ℕ) → Fits n i (node i)) (total : ℕ → ℕ) where
  -- a root not yet shown is a use left
  pub root_used : (w : ℕ) (ws : List ℕ) (s : State) → Inv limit room n count node total (root_uses (w ∷ ws)) none 0 s → 0 < s.uses (node_in w)
  root_used w ws s inv = omega (arith, inv.counts (node_in w), plus-edge w (node_in w) (root_uses ws), edge_same w)

  -- a root shown is a use less, and with the last one its records are given back
  pub release-inv : (w : ℕ) (ws : List ℕ) (s : State) → node_in w < count → s.done (node_in w) ≡ true
      → Inv limit room n count node total (root_uses (w ∷ ws)) none 0 s
      → Inv limit room n count node total (root_uses ws) none 0 (release (node_in w) s)
  release-inv w ws s l d inv = go (eqb (s.uses (node_in w)) 1) refl
    where
      c : ℕ
      c = size (s.value (node_in w))

      go : (b : Bool) → eqb (s.uses (node_in w)) 1 ≡ b
          → Inv limit room n count node total (root_uses ws) none 0 (cond b (give_back c (less (node_in w) s)) (less (node_in w) s))
      go true e =
          let v = less-last limit room n count node total (root_uses (w ∷ ws)) none 0 w s l d (eqb-true (s.uses (node_in w)) 1 e) inv in record {
            right = v.right;
            counts = λ j. omega (arith, v.counts j, plus-edge w j (root_uses ws));
            fewer = v.fewer;
            holds = omega (arith, v.holds);
            within = omega (arith, v.within);
            paid = v.paid;
          }
      go false e =
          let k = suc-of (s.uses (node_in w)) (root_used w ws s inv) (eqb-false (s.uses (node_in w)) 1 e) in
          let v = less-more limit room n count node total (root_uses (w ∷ ws)) none 0 w k.0 s l d k.1 inv in record {
            right = v.right;
            counts = λ j. omega (arith, v.counts j, plus-edge w j (root_uses ws));
            fewer = v.fewer;
            holds = v.holds;
            within = v.within;
            paid = v.paid;
          }

  -- showing the roots keeps the invariant, and shows a value of each
  pub show_post : (ws : List ℕ) (s : State) → Named count ws → Inv limit room n count node total (root_uses ws) none 0 s
      → Post (show_roots limit room node count ws s)
      (λ r. AllShow n count node ws r.shown × Inv limit room n count node total none none 0 r.state)
  show_post [] s h inv = (tt, inv)
  show_post (w ∷ ws) s h inv =
      post-bind (eval limit room node count (node_in w) s) _ (Good limit room n count node fits total (root_uses (w ∷ ws)) (node_in w) s) _
      (eval-post limit room n count node fits total (root_uses (w ∷ ws)) count (node_in w) s h.0 h.0 (root_used w ws s inv) inv) (λ t g.
      charge-then limit (size (t.value (node_in w))) t _ _ (λ paid.
      post-bind (show_roots limit room node count ws (release (node_in w) (worked (size (t.value (node_in w))) t))) _ _ _
      (show_post ws (release (node_in w) (worked (size (t.value (node_in w))) t)) h.1
      (release-inv w ws (worked (size (t.value (node_in w))) t) h.0 g.1.marked
      (inv-worked limit room n count node total (root_uses (w ∷ ws)) none 0 (size (t.value (node_in w))) t paid g.0))) (λ r k.
      ((right_shows n count node w (t.value (node_in w)) (g.0.right (node_in w) h.0 g.1.marked), k.0), k.1))))

module _ (limit room n count : ℕ) (node : ℕ → PauliNode) (fits : (i : ℕ) → Fits n i (node i)) (roots : List ℕ) where
  -- it holds when the nodes are counted and nothing is done
  pub begin_inv : (amount : ℕ) → 0 + amount ≤ limit
      → let c = scan node count (root_uses roots) in
      Inv limit room n count node c.uses (root_uses roots) none 0 (worked amount (walk_begin c))
  begin_inv amount h = record {
    right = λ j l d. let z : ◌≡◌ {A = ℕ} 0 1 = cc in absurd (omega arith);
    counts = λ j. omega (arith, scan-uses n node fits count (root_uses roots) j);
    fewer = λ j. omega arith;
    holds = omega (arith, sum-zero count (λ j. 0) (λ j l. refl));
    within = omega arith;
    paid = h;
  }

  pub walk-post : Named count roots → Post (walk_nodes limit room node count roots) (λ r. AllShow n count node roots r.shown)
  walk-post h = let c = scan node count (root_uses roots) in
      charge-then limit (length roots + c.reached) (walk_begin c) _ _ (λ paid.
      post_map (show_roots limit room node count roots (worked (length roots + c.reached) (walk_begin c))) _ (λ r. AllShow n count node roots r.shown)
      (show_post limit room n count node fits c.uses roots _ h (begin_inv _ paid)) (λ r k. k.0))

-- if the walk accepts, what is shown at each root, made dense, is the root's image
pub walk-means : (limit room n count : ℕ) (words roots : List ℕ) (a : Answer) → Named count roots → walk limit room n count words roots ≡ fine a
    → map (dense n) a.shown ≡ map (image n count words) roots
unfolding walk image values
walk-means limit room n count words roots a h e = post-fine (λ a. map (dense n) a.shown ≡ map (image n count words) roots) e
    (post-bind (walk_nodes limit room (node_at n words) count roots) _ _ _ (walk-post limit room n count (node_at n words) (node_fits n words) roots h)
    (λ r k. images_are n count (node_at n words) roots r.shown k))

-- the factor counts shown are the weights of the images
pub walk-weights : (limit room n count : ℕ) (words roots : List ℕ) (a : Answer) → Named count roots → walk limit room n count words roots ≡ fine a
    → map size a.shown ≡ map (λ w. weight (image n count words w).letters) roots
unfolding walk image values
walk-weights limit room n count words roots a h e = post-fine (λ a. map size a.shown ≡ map (λ w. weight (image n count words w).letters) roots) e
    (post-bind (walk_nodes limit room (node_at n words) count roots) _ _ _ (walk-post limit room n count (node_at n words) (node_fits n words) roots h)
    (λ r k. weights_are n count (node_at n words) roots r.shown k))
