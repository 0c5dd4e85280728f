-- An accepted walk's work is the sum of its charges, whole: the roots in turn, and the 1 for each root and each reachable node.
use mathlib.Core.Path.{◌≡◌, refl, ap, sym, ◌∙◌}
use mathlib.Core.Bool.{Bool, true, false, cond}
use mathlib.Core.List.{List, [], ◌∷◌, map}
use Prim.Native.Nat.{ℕ, zero, suc, ◌+◌, ◌-◌, ◌≤◌, ◌<◌}
use native.Mathlib.Omega.{arith}
use lib.Dec.{leb, eqb}
use lib.ListN.{length}
use Rattle.arena.specs.References.{node_in}
use Rattle.pauli.specs.Letters.{real}
use Rattle.arena.specs.Errors.{ExpansionLimit, NonHermitianAxis}
use Rattle.arena.specs.Nodes.{PauliNode, Identity, Single, Product, Malformed, node_at, values, image}
use Rattle.arena.specs.Sparse.{size}
use Rattle.arena.specs.Walk.{Out, fine, refused, bind, update, State, root_uses, scan, worked, less, give_back, release, walk_begin, Walked, eval, show_roots, walk_nodes, Answer, walk, Named}
use Rattle.arena.specs.Readers.{first_of, Expanded, expanded_of, expand_walk, hermitian_walk, Weighed, largest, words_of, Report, report_walk}
use Rattle.arena.specs.Charges.{Visit, evaluates, shows, evaluated_in, children_first, evaluate, visits, charges, sum_of, work_of}
use Rattle.arena.specs.Code.WalkWords.{edge, none, Inv}
use Rattle.arena.proofs.Walk.Outcomes.{Post, post-bind, post_map, post_and, post-fine, charge-then}
use Rattle.arena.proofs.DecodedNodes.{Fits, node_fits}
use Rattle.arena.proofs.Walk.Sums.{sum-cong, sum-zero}
use Rattle.arena.proofs.Walk.Uses.{counted, scan-reached}
use Rattle.arena.proofs.Walk.Invariant.{inv-worked, less-uses}
use Rattle.arena.proofs.Walk.Evaluates.{Good, eval-post}
use Rattle.arena.proofs.Walk.Means.{root_used, release-inv, show_post, begin_inv}
use Rattle.arena.proofs.Walk.Ends.{Ended, Empty, show_ends, reached_done, ends-empty}
use Rattle.arena.proofs.Walk.Work.{times, extras, extras-cong, charges-sum, one_of, evaluations, Visited, Charged, weighs, size_is, still, then, eval-work}

-- ---- the visits are the nodes evaluated and the roots shown

abbrev showings : List Visit → ℕ
showings [] = 0
showings (evaluates i ∷ vs) = showings vs
showings (shows w ∷ vs) = suc (showings vs)

visits-are : (vs : List Visit) → length vs ≡ evaluations vs + showings vs
visits-are [] = refl
visits-are (evaluates i ∷ vs) = omega (arith, visits-are vs)
visits-are (shows w ∷ vs) = omega (arith, visits-are vs)

evaluate-shows : (node : ℕ → PauliNode) (f i : ℕ) (vs : List Visit) → showings (evaluate node f i vs) ≡ showings vs
evaluate-shows node zero i vs = refl
evaluate-shows node (suc f) i vs = go (evaluated_in i vs) (λ j us. evaluate-shows node f j us)
  where
    after : ℕ → List Visit → List Visit
    after j us = evaluate node f j us

    by-node : (nd : PauliNode) → ((j : ℕ) (us : List Visit) → showings (after j us) ≡ showings us) → showings (children_first nd after vs) ≡ showings vs
    by-node Identity ih = refl
    by-node (Single q a) ih = refl
    by-node (Product l r) ih = ih (node_in r) (after (node_in l) vs) ∙ ih (node_in l) vs
    by-node Malformed ih = refl

    go : (b : Bool) → ((j : ℕ) (us : List Visit) → showings (after j us) ≡ showings us)
        → showings (cond b vs (evaluates i ∷ children_first (node i) after vs)) ≡ showings vs
    go true ih = refl
    go false ih = by-node (node i) ih

visits-shows : (node : ℕ → PauliNode) (depth : ℕ) (ws : List ℕ) (vs : List Visit) → showings (visits node depth ws vs) ≡ length ws + showings vs
visits-shows node depth [] vs = omega arith
visits-shows node depth (w ∷ ws) vs =
    omega (arith, visits-shows node depth ws (shows w ∷ evaluate node depth (node_in w) vs), evaluate-shows node depth (node_in w) vs)

-- ---- the roots in turn

module _ (limit room n count : ℕ) (node : ℕ → PauliNode) (fits : (i : ℕ) → Fits n i (node i)) (total : ℕ → ℕ) where
  abbrev heavy : ℕ → ℕ
  heavy = weighs limit room n count node fits total

  abbrev Pays : State → List Visit → State → List Visit → Type 0
  Pays s vs t us = Charged count node heavy total s vs t us

  -- a root is charged, shown and given up
  shown : (w : ℕ) (t : State) (us : List Visit) → Visited count total t us → 0 < t.uses (node_in w) → size (t.value (node_in w)) ≡ heavy w
      → Pays t us (release (node_in w) (worked (size (t.value (node_in w))) t)) (shows w ∷ us)
  shown w t us seen u weight_is = go (eqb (t.uses (node_in w)) 1)
    where
      j : ℕ
      j = node_in w

      s : State
      s = worked (size (t.value j)) t

      uses-are : extras node heavy (λ k. update t.uses j (t.uses j - 1) k + edge w k) us ≡ extras node heavy t.uses us
      uses-are = extras-cong node heavy _ t.uses us (λ k. less-uses t.uses w k u)

      go : (b : Bool) → Pays t us (cond b (give_back (size (s.value j)) (less j s)) (less j s)) (shows w ∷ us)
      go true = record { visited = record { marks = seen.marks; many = seen.many; wanted = seen.wanted }; paid = omega (arith, uses-are, weight_is) }
      go false = record { visited = record { marks = seen.marks; many = seen.many; wanted = seen.wanted }; paid = omega (arith, uses-are, weight_is) }

  show_work : (ws : List ℕ) (s : State) (vs : List Visit) → Named count ws → Inv limit room n count node total (root_uses ws) none 0 s → Visited count total s vs
      → Post (show_roots limit room node count ws s) (λ r. Pays s vs r.state (visits node count ws vs))
  show_work [] s vs h inv seen = still limit room n count node fits total s vs seen
  show_work (w ∷ ws) s vs h inv seen =
      post-bind (eval limit room node count (node_in w) s) _ _ _
      (post_and (eval limit room node count (node_in w) s) (Good limit room n count node fits total (root_uses (w ∷ ws)) (node_in w) s) _
      (eval-post limit room n count node fits total (root_uses (w ∷ ws)) count (node_in w) s h.0 h.0 (used s inv) inv)
      (eval-work limit room n count node fits total (root_uses (w ∷ ws)) count (node_in w) s vs h.0 h.0 (used s inv) inv seen)) (λ t g.
      charge-then limit (size (t.value (node_in w))) t _ _ (λ paid.
      let u = release (node_in w) (worked (size (t.value (node_in w))) t) in
      let us = evaluate node count (node_in w) vs in
      let p = shown w t us g.1.visited (used t g.0.0) (size_is limit room n count node fits total w (t.value (node_in w)) (g.0.0.right (node_in w) h.0 g.0.1.marked)) in
      post-bind (show_roots limit room node count ws u) _ _ _
      (show_work ws u (shows w ∷ us) h.1
      (release-inv limit room n count node fits total w ws (worked (size (t.value (node_in w))) t) h.0 g.0.1.marked
      (inv-worked limit room n count node total (root_uses (w ∷ ws)) none 0 (size (t.value (node_in w))) t paid g.0.0)) p.visited) (λ r q.
      then limit room n count node fits total s vs t us r.state _ g.1
      (then limit room n count node fits total t us u (shows w ∷ us) r.state _ p q))))
    where
      used : (t : State) → Inv limit room n count node total (root_uses (w ∷ ws)) none 0 t → 0 < t.uses (node_in w)
      used t i = root_used limit room n count node fits total w ws t i

module _ (limit room n count : ℕ) (node : ℕ → PauliNode) (fits : (i : ℕ) → Fits n i (node i)) (roots : List ℕ) where
  abbrev all : ℕ → ℕ
  all = (scan node count (root_uses roots)).uses

  abbrev whole : List Visit
  whole = visits node count roots []

  -- at the end, every reachable node is evaluated, and no other
  reached_are : (t : State) → ((j : ℕ) → t.done j ≡ true → 0 < all j) → ((j : ℕ) → j < count → 0 < all j → t.done j ≡ true)
      → (j : ℕ) → j < count → counted (all j) ≡ one_of (t.done j)
  reached_are t only every j l = go (all j) (t.done j) refl refl
    where
      go : (m : ℕ) (b : Bool) → all j ≡ m → t.done j ≡ b → counted m ≡ one_of b
      go zero true e d = absurd (omega (arith, only j d))
      go zero false e d = refl
      go (suc m) true e d = refl
      go (suc m) false e d = let q = sym d ∙ every j l (omega arith) in let z : ◌≡◌ {A = ℕ} 0 1 = ap one_of q in absurd (omega arith)

  walk-sum : Named count roots
      → Post (walk_nodes limit room node count roots) (λ r. r.state.work ≡ sum_of (charges node (weighs limit room n count node fits all) [] whole))
  walk-sum h =
      let c = scan node count (root_uses roots) in
      charge-then limit (length roots + c.reached) (walk_begin c) _ _ (λ paid.
      let s = worked (length roots + c.reached) (walk_begin c) in
      let inv = begin_inv limit room n count node fits roots (length roots + c.reached) paid in
      post_map (show_roots limit room node count roots s) _ _
      (post_and (show_roots limit room node count roots s) _ _
      (show_ends limit room n node fits count roots s h (λ i j d k. let z : ◌≡◌ {A = ℕ} 0 1 = cc in absurd (omega arith)))
      (post_and (show_roots limit room node count roots s) _ _
      (show_post limit room n count node fits c.uses roots s h inv)
      (show_work limit room n count node fits c.uses roots s [] h inv
      (record { marks = λ j. refl; many = sym (sum-zero count (λ j. 0) (λ j l. refl)); wanted = λ j d. let z : ◌≡◌ {A = ℕ} 0 1 = cc in absurd (omega arith) }))))
      (λ r k. ended s r k.0 k.1.0.1 k.1.1 refl))
    where
      heavy : ℕ → ℕ
      heavy = weighs limit room n count node fits all

      ended : (s : State) (r : Walked) → Ended node roots s r → Inv limit room n count node all none none 0 r.state
          → Charged count node heavy all s [] r.state whole → s.work ≡ 0 + (length roots + (scan node count (root_uses roots)).reached)
          → r.state.work ≡ sum_of (charges node heavy [] whole)
      ended s r e inv p begun = omega (
        arith,
        p.paid,
        begun,
        charges-sum node heavy [] whole,
        extras-cong node heavy r.state.uses (times []) whole empty.no_use,
        visits-are whole,
        visits-shows node count roots [],
        p.visited.many,
        scan-reached n node fits count (root_uses roots),
        sum-cong count (λ j. counted (all j)) (λ j. one_of (r.state.done j)) (reached_are r.state p.visited.wanted
            (λ j l u. reached_done limit room n count node fits roots r.state e.closed e.roots_done count j (omega arith) l u)),
      )
        where
          empty : Empty r.state
          empty = ends-empty limit room n count node fits roots r.state e.closed e.roots_done inv

  walk-paid : Named count roots → Post (walk_nodes limit room node count roots) (λ r. r.state.work ≤ limit)
  walk-paid h =
      let c = scan node count (root_uses roots) in
      charge-then limit (length roots + c.reached) (walk_begin c) _ _ (λ paid.
      post_map (show_roots limit room node count roots (worked (length roots + c.reached) (walk_begin c))) _ _
      (show_post limit room n count node fits c.uses roots _ h (begin_inv limit room n count node fits roots _ paid)) (λ r k. k.1.paid))

-- the work answered is the sum of the charges
pub walk-work : (limit room n count : ℕ) (words roots : List ℕ) (a : Answer) → Named count roots → walk limit room n count words roots ≡ fine a
    → a.work ≡ work_of n count words roots
unfolding walk work_of image values
walk-work limit room n count words roots a h e = post-fine (λ a. a.work ≡ work_of n count words roots) e
    (post-bind (walk_nodes limit room (node_at n words) count roots) _ _ _ (walk-sum limit room n count (node_at n words) (node_fits n words) roots h) (λ r k. k))

-- and within the limit
pub walk-within : (limit room n count : ℕ) (words roots : List ℕ) (a : Answer) → Named count roots → walk limit room n count words roots ≡ fine a → a.work ≤ limit
unfolding walk
walk-within limit room n count words roots a h e = post-fine (λ a. a.work ≤ limit) e
    (post-bind (walk_nodes limit room (node_at n words) count roots) _ _ _ (walk-paid limit room n count (node_at n words) (node_fits n words) roots h) (λ r k. k))

-- ---- the work that the readers answer

pub expand_work : (cells room n count : ℕ) (words : List ℕ) (w : ℕ) (x : Expanded) → node_in w < count → expand_walk cells room n count words w ≡ fine x
    → x.work ≡ work_of n count words (w ∷ [])
unfolding expand_walk
expand_work cells room n count words w x h e = go (leb n cells) (walk (cells - n) room n count words (w ∷ [])) refl e
  where
    go : (b : Bool) (o : Out Answer) → walk (cells - n) room n count words (w ∷ []) ≡ o
        → cond b (bind o (λ a. fine (expanded_of n count words w a))) (refused ExpansionLimit) ≡ fine x
        → x.work ≡ work_of n count words (w ∷ [])
    go true (fine a) q e = let d = walk-work (cells - n) room n count words (w ∷ []) a (h, tt) q in cc
    go true (refused k) q e = cc
    go false o q e = cc

pub hermitian_work : (limit room n count : ℕ) (words : List ℕ) (w work : ℕ) → node_in w < count → hermitian_walk limit room n count words w ≡ fine work
    → work ≡ work_of n count words (w ∷ [])
unfolding hermitian_walk
hermitian_work limit room n count words w work h e = go (walk limit room n count words (w ∷ [])) refl e
  where
    by-phase : (b : Bool) (a : Answer) → a.work ≡ work_of n count words (w ∷ []) → cond b (fine a.work) (refused NonHermitianAxis) ≡ fine work
        → work ≡ work_of n count words (w ∷ [])
    by-phase true a d e = cc
    by-phase false a d e = cc

    go : (o : Out Answer) → walk limit room n count words (w ∷ []) ≡ o
        → bind o (λ a. cond (real (first_of a.shown).phase) (fine a.work) (refused NonHermitianAxis)) ≡ fine work
        → work ≡ work_of n count words (w ∷ [])
    go (fine a) q e = by-phase (real (first_of a.shown).phase) a (walk-work limit room n count words (w ∷ []) a (h, tt) q) e
    go (refused k) q e = cc

pub report_work : (zeros : Bool) (limit room n count : ℕ) (words : List ℕ) (axes : List Weighed) (x : Report) → Named count (words_of axes) → report_walk zeros limit room n count words axes ≡ fine x
    → x.work ≡ work_of n count words (words_of axes)
unfolding report_walk
report_work zeros limit room n count words axes x h e = go (walk limit room n count words (words_of axes)) refl e
  where
    go : (o : Out Answer) → walk limit room n count words (words_of axes) ≡ o
        → bind o (λ a. fine (record { weights = largest zeros axes (map size a.shown); work = a.work })) ≡ fine x
        → x.work ≡ work_of n count words (words_of axes)
    go (fine a) q e = let d = walk-work limit room n count words (words_of axes) a h q in cc
    go (refused k) q e = cc
