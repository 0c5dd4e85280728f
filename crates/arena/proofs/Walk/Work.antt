-- The work of an accepted walk is the sum of its charges: every step adds what the list of charges has for it.
use mathlib.Core.Path.{◌≡◌, refl, ap, ap₂, sym, ◌∙◌, subst, fun_ext}
use mathlib.Core.Bool.{Bool, true, false, cond, ◌||◌}
use mathlib.Core.List.{List, [], ◌∷◌, ◌++◌}
use Prim.Native.Nat.{ℕ, zero, suc, ◌+◌, ◌-◌, ◌≤◌, ◌<◌, min}
use native.Mathlib.Nat.{not-suc-le-zero}
use native.Mathlib.Omega.{arith}
use borrow.Author.Tests.{eqb-true, eqb-false}
use lib.Dec.{eqb}
use lib.ListN.{length}
use Rattle.pauli.specs.Rows.{weight}
use Rattle.arena.specs.References.{node_in, phase_in}
use Rattle.arena.specs.Nodes.{PauliNode, Identity, Single, Product, Malformed, image_in, rows_to}
use Rattle.arena.specs.Sparse.{Sparse, empty, one, turned, size, multiply}
use Rattle.arena.specs.Walk.{Out, update, State, worked, lent, less, finish, Taken, take_as, take_use, combine, eval_node, eval_unless, eval}
use Rattle.arena.specs.Charges.{Visit, evaluates, shows, evaluated_in, children_first, evaluate, member, children, used_by, copy_of, product_charges, visit_charges, charges, sum_of}
use Rattle.arena.specs.Code.WalkWords.{sum, edge, edges, none, Right, Inv}
use Rattle.arena.proofs.Walk.Outcomes.{update_same, update_other, suc-of, Post, post-bind, post_map, post_and, charge-then, lend-then}
use Rattle.arena.proofs.DecodedNodes.{Fits}
use Rattle.arena.proofs.SparseProducts.{size-weight}
use Rattle.arena.proofs.Walk.Sums.{sum-change}
use Rattle.arena.proofs.Walk.Uses.{edge_same}
use Rattle.arena.proofs.Walk.Invariant.{owes, right_shows}
use Rattle.arena.proofs.Walk.Evaluates.{Took, Good, take_post, eval-post}

-- ---- the charges by numbers of later uses

-- a value of k factors is copied if it is used later
abbrev pub copied : ℕ → ℕ → ℕ
copied zero k = 0
copied (suc m) k = k

-- how often j is there
abbrev pub times : List ℕ → ℕ → ℕ
times [] j = 0
times (k ∷ ks) j = cond (eqb j k) 1 0 + times ks j

member-times : (j : ℕ) (ks : List ℕ) (k : ℕ) → cond (member j ks) k 0 ≡ copied (times ks j) k
member-times j [] k = refl
member-times j (i ∷ ks) k = go (eqb j i) (member-times j ks k)
  where
    go : (b : Bool) → cond (member j ks) k 0 ≡ copied (times ks j) k → cond (b || member j ks) k 0 ≡ copied (cond b 1 0 + times ks j) k
    go true ih = let z : suc (times ks j) ≡ 1 + times ks j = omega arith in ap (λ m. copied m k) z
    go false ih = let z : times ks j ≡ 0 + times ks j = omega arith in ih ∙ ap (λ m. copied m k) z

sum-append : (us vs : List ℕ) → sum_of (us ++ vs) ≡ sum_of us + sum_of vs
sum-append [] vs = omega arith
sum-append (u ∷ us) vs = omega (arith, sum-append us vs)

module _ (node : ℕ → PauliNode) (weighs : ℕ → ℕ) where
  -- what a visit charges besides 1
  abbrev pub node_extra : PauliNode → (ℕ → ℕ) → ℕ
  node_extra Identity u = 0
  node_extra (Single q a) u = 0
  node_extra (Product l r) u = copied (u (node_in l) + edge r (node_in l)) (weighs l) + copied (u (node_in r)) (weighs r) + min (weighs l) (weighs r)
  node_extra Malformed u = 0

  abbrev pub extra : Visit → (ℕ → ℕ) → ℕ
  extra (evaluates i) u = node_extra (node i) u
  extra (shows w) u = weighs w

  -- the uses with those of a visit
  abbrev pub earlier : Visit → (ℕ → ℕ) → ℕ → ℕ
  earlier (evaluates i) u j = u j + edges (node i) j
  earlier (shows w) u j = u j + edge w j

  abbrev pub extras : (ℕ → ℕ) → List Visit → ℕ
  extras u [] = 0
  extras u (v ∷ vs) = extra v u + extras (earlier v u) vs

  pub extras-cong : (u v : ℕ → ℕ) (vs : List Visit) → ((j : ℕ) → u j ≡ v j) → extras u vs ≡ extras v vs
  extras-cong u v vs h = ap (λ f. extras f vs) (fun_ext h)

  used-times : (v : Visit) (later : List ℕ) (j : ℕ) → times (used_by node weighs v ++ later) j ≡ earlier v (times later) j
  used-times (shows w) later j = omega arith
  used-times (evaluates i) later j = go (node i)
    where
      go : (nd : PauliNode) → times (children nd ++ later) j ≡ times later j + edges nd j
      go Identity = omega arith
      go (Single q a) = omega arith
      go (Product l r) = omega arith
      go Malformed = omega arith

  visit-sum : (v : Visit) (later : List ℕ) → sum_of (visit_charges node weighs v later) ≡ suc (extra v (times later))
  visit-sum (shows w) later = omega arith
  visit-sum (evaluates i) later = go (node i)
    where
      go : (nd : PauliNode) → 1 + sum_of (product_charges node weighs nd later) ≡ suc (node_extra nd (times later))
      go Identity = refl
      go (Single q a) = refl
      go (Product l r) =
          let o : edge r (node_in l) + times later (node_in l) ≡ times later (node_in l) + edge r (node_in l) = omega arith in
          let p : copy_of node weighs l (node_in r ∷ later) ≡ copied (times later (node_in l) + edge r (node_in l)) (weighs l) = member-times (node_in l) (node_in r ∷ later) (weighs l) ∙ ap (λ m. copied m (weighs l)) o in
          let q : copy_of node weighs r later ≡ copied (times later (node_in r)) (weighs r) = member-times (node_in r) later (weighs r) in
          omega (arith, p, q)
      go Malformed = refl

  pub charges-sum : (later : List ℕ) (vs : List Visit) → sum_of (charges node weighs later vs) ≡ length vs + extras (times later) vs
  charges-sum later [] = refl
  charges-sum later (v ∷ vs) = omega (
    arith,
    sum-append (visit_charges node weighs v later) (charges node weighs (used_by node weighs v ++ later) vs),
    visit-sum v later,
    charges-sum (used_by node weighs v ++ later) vs,
    extras-cong (times (used_by node weighs v ++ later)) (earlier v (times later)) vs (used-times v later),
  )

-- ---- the visits so far

abbrev pub one_of : Bool → ℕ
one_of b = cond b 1 0

-- how many nodes are evaluated
abbrev pub evaluations : List Visit → ℕ
evaluations [] = 0
evaluations (evaluates i ∷ vs) = suc (evaluations vs)
evaluations (shows w ∷ vs) = evaluations vs

-- the state s, after the visits vs: what they evaluate is done, and has a use in all
pub record Visited (count : ℕ) (total : ℕ → ℕ) (s : State) (vs : List Visit) : Type 0 where
  pub marks : (j : ℕ) → s.done j ≡ evaluated_in j vs
  pub many : evaluations vs ≡ sum count (λ j. one_of (s.done j))
  pub wanted : (j : ℕ) → s.done j ≡ true → 0 < total j

-- from s after vs to t after us: the work grew by what the visits in between charge
pub record Charged (count : ℕ) (node : ℕ → PauliNode) (weighs : ℕ → ℕ) (total : ℕ → ℕ) (s : State) (vs : List Visit) (t : State) (us : List Visit) : Type 0 where
  pub visited : Visited count total t us
  pub paid : extras node weighs t.uses us + s.work ≡ extras node weighs s.uses vs + t.work

-- ---- a use taken

take_work : (limit room w : ℕ) (s : State) → 0 < s.uses (node_in w)
    → Post (take_use limit room w s) (λ a. a.state.work ≡ s.work + copied (a.state.uses (node_in w)) (size (s.value (node_in w))))
take_work limit room w s h = go (eqb (s.uses (node_in w)) 1) refl
  where
    j : ℕ
    j = node_in w

    left : update s.uses j (s.uses j - 1) j ≡ s.uses j - 1
    left = update_same s.uses j (s.uses j - 1)

    go : (b : Bool) → eqb (s.uses j) 1 ≡ b → Post (take_as limit room b (turned (phase_in w) (s.value j)) (less j s))
        (λ a. a.state.work ≡ s.work + copied (a.state.uses j) (size (s.value j)))
    go true e =
        let z : update s.uses j (s.uses j - 1) j ≡ 0 = omega (arith, left, eqb-true (s.uses j) 1 e) in
        let c : copied (update s.uses j (s.uses j - 1) j) (size (s.value j)) ≡ 0 = ap (λ m. copied m (size (s.value j))) z in
        omega (arith, c)
    go false e =
        let k = suc-of (s.uses j) h (eqb-false (s.uses j) 1 e) in
        let z : update s.uses j (s.uses j - 1) j ≡ suc k.0 = omega (arith, left, k.1) in
        let c : copied (update s.uses j (s.uses j - 1) j) (size (s.value j)) ≡ size (s.value j) = ap (λ m. copied m (size (s.value j))) z in
        charge-then limit (size (s.value j)) (less j s) _ _ (λ paid.
        lend-then room (size (s.value j)) (worked (size (s.value j)) (less j s)) _ _ (λ within. omega (arith, c)))

module _ (limit room n count : ℕ) (node : ℕ → PauliNode) (fits : (i : ℕ) → Fits n i (node i)) (total : ℕ → ℕ) where
  -- the letters other than I of a word's image
  abbrev pub weighs : ℕ → ℕ
  weighs w = weight (image_in n (rows_to n node count) w).letters

  abbrev Pays : State → List Visit → State → List Visit → Type 0
  Pays s vs t us = Charged count node weighs total s vs t us

  pub size_is : (w : ℕ) (v : Sparse) → Right n count node (node_in w) v → size v ≡ weighs w
  size_is w v r =
      let h = right_shows n count node w v r in
      sym (size-weight n (turned (phase_in w) v) h.proper) ∙ ap (λ P. weight P.letters) h.means

  pub still : (s : State) (vs : List Visit) → Visited count total s vs → Pays s vs s vs
  still s vs h = record { visited = h; paid = refl }

  pub then : (s : State) (vs : List Visit) (t : State) (us : List Visit) (u : State) (ws : List Visit) → Pays s vs t us → Pays t us u ws → Pays s vs u ws
  then s vs t us u ws p q = record { visited = q.visited; paid = omega (arith, p.paid, q.paid) }

  -- node i is evaluated: its children's uses are consumed
  evaluated : (i : ℕ) (s : State) (vs : List Visit) (t : State) → Visited count total s vs → i < count → 0 < total i → s.done i ≡ false
      → t.done ≡ update s.done i true → ((j : ℕ) → t.uses j + edges (node i) j ≡ s.uses j) → t.work ≡ s.work + node_extra node weighs (node i) t.uses
      → Pays s vs t (evaluates i ∷ vs)
  evaluated i s vs t h low reached not_done done-is uses-are work-is = record {
    visited = record { marks = marks; many = many; wanted = wanted };
    paid = omega (arith, work-is, extras-cong node weighs (earlier node weighs (evaluates i) t.uses) s.uses vs uses-are);
  }
    where
      marks : (j : ℕ) → t.done j ≡ evaluated_in j (evaluates i ∷ vs)
      marks j = ap (λ f. f j) done-is ∙ go (eqb j i)
        where
          go : (b : Bool) → cond b true (s.done j) ≡ b || evaluated_in j vs
          go true = refl
          go false = h.marks j

      many : evaluations (evaluates i ∷ vs) ≡ sum count (λ j. one_of (t.done j))
      many = omega (arith, h.many, change, before, after)
        where
          change : sum count (λ j. one_of (s.done j)) + one_of (t.done i) ≡ sum count (λ j. one_of (t.done j)) + one_of (s.done i)
          change = sum-change count (λ j. one_of (s.done j)) (λ j. one_of (t.done j)) i low
              (λ j ne. ap one_of (sym (ap (λ f. f j) done-is ∙ update_other s.done i true j ne)))

          before : one_of (s.done i) ≡ 0
          before = ap one_of not_done

          after : one_of (t.done i) ≡ 1
          after = ap one_of (ap (λ f. f i) done-is ∙ update_same s.done i true)

      wanted : (j : ℕ) → t.done j ≡ true → 0 < total j
      wanted j d = go (eqb j i) refl
        where
          go : (b : Bool) → eqb j i ≡ b → 0 < total j
          go true e = rw (eqb-true j i e) reached
          go false e = h.wanted j (sym (ap (λ f. f j) done-is ∙ update_other s.done i true j (eqb-false j i e)) ∙ d)

  -- ---- a product

  pub record Combined (i l r : ℕ) (s t : State) : Type 0 where
    pub done_is : t.done ≡ update s.done i true
    pub uses_are : (j : ℕ) → t.uses j + (edge l j + edge r j) ≡ s.uses j
    pub work_is : t.work ≡ s.work + node_extra node weighs (Product l r) t.uses

  combine-work : (rest : ℕ → ℕ) (i l r : ℕ) (s : State) → node_in l < count → node_in r < count → ((j : ℕ) → edge l j + edge r j ≤ s.uses j)
      → s.done (node_in l) ≡ true → s.done (node_in r) ≡ true → Inv limit room n count node total rest none 0 s
      → Post (combine limit room l r i s) (Combined i l r s)
  combine-work rest i l r s hl hr owe dl dr inv =
      post-bind (take_use limit room l s) _ _ _
      (post_and (take_use limit room l s) (Took limit room n count node total rest none 0 l s) _
      (take_post limit room n count node total rest none 0 l s hl dl (omega (arith, owe (node_in l), edge_same l)) inv)
      (take_work limit room l s (omega (arith, owe (node_in l), edge_same l)))) (λ a ta.
      post-bind (take_use limit room r a.state) _ _ _
      (post_and (take_use limit room r a.state) (Took limit room n count node total rest (λ j. none j + edge l j) (0 + size a.value) r a.state) _
      (take_post limit room n count node total rest (λ j. none j + edge l j) (0 + size a.value) r a.state hr
      (ap (λ f. f (node_in r)) ta.0.done_is ∙ dr) (right-used a ta.0) ta.0.inv)
      (take_work limit room r a.state (right-used a ta.0))) (λ b tb.
      charge-then limit (min (size a.value) (size b.value)) b.state _ _ (λ paid. last a b ta.0 ta.1 tb.0 tb.1)))
    where
      TookLeft : Taken → Type 0
      TookLeft a = Took limit room n count node total rest none 0 l s a

      TookRight : Taken → Taken → Type 0
      TookRight a b = Took limit room n count node total rest (λ j. none j + edge l j) (0 + size a.value) r a.state b

      right-used : (a : Taken) → TookLeft a → 0 < a.state.uses (node_in r)
      right-used a ta = omega (arith, ta.uses_are (node_in r), owe (node_in r), edge_same r)

      last : (a b : Taken) → TookLeft a → a.state.work ≡ s.work + copied (a.state.uses (node_in l)) (size (s.value (node_in l)))
          → TookRight a b → b.state.work ≡ a.state.work + copied (b.state.uses (node_in r)) (size (a.state.value (node_in r)))
          → Combined i l r s (finish i (multiply a.value b.value) (size a.value + size b.value) (worked (min (size a.value) (size b.value)) b.state))
      last a b ta wa tb wb = record {
        done_is = ap (λ f. update f i true) (tb.done_is ∙ ta.done_is);
        uses_are = λ j. omega (arith, tb.uses_are j, ta.uses_are j);
        work_is = omega (arith, wa, wb, left-copy, right-copy, smaller);
      }
        where
          left-size : size (s.value (node_in l)) ≡ weighs l
          left-size = size_is l (s.value (node_in l)) (inv.right (node_in l) hl dl)

          right-size : size (s.value (node_in r)) ≡ weighs r
          right-size = size_is r (s.value (node_in r)) (inv.right (node_in r) hr dr)

          values-are : size (a.state.value (node_in r)) ≡ size (s.value (node_in r))
          values-are = ap (λ f. size (f (node_in r))) ta.values_are

          left-copy : copied (a.state.uses (node_in l)) (size (s.value (node_in l))) ≡ copied (b.state.uses (node_in l) + edge r (node_in l)) (weighs l)
          left-copy = ap₂ copied (sym (tb.uses_are (node_in l))) left-size

          right-copy : copied (b.state.uses (node_in r)) (size (a.state.value (node_in r))) ≡ copied (b.state.uses (node_in r)) (weighs r)
          right-copy = ap (copied (b.state.uses (node_in r))) (values-are ∙ right-size)

          smaller : min (size a.value) (size b.value) ≡ min (weighs l) (weighs r)
          smaller = ap₂ min (ap size ta.value_is ∙ left-size) (ap size tb.value_is ∙ values-are ∙ right-size)

  -- ---- a node, and then the roots

  pub eval-work : (rest : ℕ → ℕ) (f i : ℕ) (s : State) (vs : List Visit) → i < f → i < count → 0 < s.uses i
      → Inv limit room n count node total rest none 0 s → Visited count total s vs
      → Post (eval limit room node f i s) (λ t. Pays s vs t (evaluate node f i vs))
  eval-work rest zero i s vs h hi u inv seen = absurd (not-suc-le-zero h)
  eval-work rest (suc f) i s vs h hi u inv seen =
      subst (λ b. Post (eval limit room node (suc f) i s) (λ t. Pays s vs t (cond b vs (evaluates i ∷ children_first (node i) after vs)))) (seen.marks i)
      (unless (s.done i) refl (λ j t ts hj. eval-work rest f j t ts (omega arith)))
    where
      rec : ℕ → State → Out State
      rec j t = eval limit room node f j t

      after : ℕ → List Visit → List Visit
      after j us = evaluate node f j us

      Ih : Type 0
      Ih = (j : ℕ) (t : State) (ts : List Visit) → j < i → j < count → 0 < t.uses j → Inv limit room n count node total rest none 0 t → Visited count total t ts
          → Post (rec j t) (λ v. Pays t ts v (after j ts))

      reached : 0 < total i
      reached = omega (arith, inv.fewer i)

      childless : (nd : PauliNode) (t : State) → node i ≡ nd → ((j : ℕ) → edges nd j ≡ 0) → ((w : ℕ → ℕ) → node_extra node weighs nd w ≡ 0) → s.done i ≡ false
          → t.done ≡ update s.done i true → ((j : ℕ) → t.uses j ≡ s.uses j) → t.work ≡ s.work → Pays s vs t (evaluates i ∷ vs)
      childless nd t e no_edge no-charge d done-is uses-are work-is =
          evaluated i s vs t seen hi reached d done-is
          (λ j. let q : edges (node i) j ≡ 0 = ap (λ m. edges m j) e ∙ no_edge j in omega (arith, uses-are j))
          (let q : node_extra node weighs (node i) t.uses ≡ 0 = ap (λ m. node_extra node weighs m t.uses) e ∙ no-charge t.uses in omega arith)

      by-node : s.done i ≡ false → (nd : PauliNode) → node i ≡ nd → Fits n i nd → Ih
          → Post (eval_node limit room nd rec i s) (λ t. Pays s vs t (evaluates i ∷ children_first nd after vs))
      by-node d Identity e fit ih = childless Identity (finish i empty 0 s) e (λ j. refl) (λ w. refl) d refl (λ j. refl) refl
      by-node d (Single q a) e fit ih = lend-then room 1 s _ _ (λ within.
          childless (Single q a) (finish i (one q a) 1 (lent 1 s)) e (λ j. refl) (λ w. refl) d refl (λ j. refl) refl)
      by-node d (Product l r) e fit ih =
          post-bind (rec (node_in l) s) _ _ _
          (post_and (rec (node_in l) s) (Good limit room n count node fits total rest (node_in l) s) _
          (eval-post limit room n count node fits total rest f (node_in l) s (omega (arith, fit.0)) (omega (arith, fit.0)) (wanted-left s d u inv) inv)
          (ih (node_in l) s vs fit.0 (omega (arith, fit.0)) (wanted-left s d u inv) inv seen)) (λ t g.
          let dt = g.0.1.later i fit.0 ∙ d in
          let ut : 0 < t.uses i = omega (arith, g.0.1.uses_from i (omega (arith, fit.0))) in
          post-bind (rec (node_in r) t) _ _ _
          (post_and (rec (node_in r) t) (Good limit room n count node fits total rest (node_in r) t) _
          (eval-post limit room n count node fits total rest f (node_in r) t (omega (arith, fit.1)) (omega (arith, fit.1)) (wanted-right t dt ut g.0.0) g.0.0)
          (ih (node_in r) t (after (node_in l) vs) fit.1 (omega (arith, fit.1)) (wanted-right t dt ut g.0.0) g.0.0 g.1.visited)) (λ t' g'.
          let d' = g'.0.1.later i fit.1 ∙ dt in
          let u' : 0 < t'.uses i = omega (arith, g'.0.1.uses_from i (omega (arith, fit.1))) in
          post_map (combine limit room l r i t') (Combined i l r t') _
          (combine-work rest i l r t' (omega (arith, fit.0)) (omega (arith, fit.1)) (owe t' d' u' g'.0.0)
          (g'.0.1.still (node_in l) g.0.1.marked) g'.0.1.marked g'.0.0)
          (λ t'' c.
          then s vs t (after (node_in l) vs) t'' _ g.1
          (then t (after (node_in l) vs) t' (after (node_in r) (after (node_in l) vs)) t'' _ g'.1
          (evaluated i t' (after (node_in r) (after (node_in l) vs)) t'' g'.1.visited hi reached d' c.done_is
          (λ j. let q : edges (node i) j ≡ edge l j + edge r j = ap (λ m. edges m j) e in omega (arith, c.uses_are j))
          (c.work_is ∙ ap (λ m. t'.work + node_extra node weighs m t''.uses) (sym e)))))))
        where
          owe : (t : State) → t.done i ≡ false → 0 < t.uses i → Inv limit room n count node total rest none 0 t → (j : ℕ) → edge l j + edge r j ≤ t.uses j
          owe t dt ut invt j = subst (λ nd. edges nd j ≤ t.uses j) e (owes limit room n count node total rest t i hi dt ut invt j)

          wanted-left : (t : State) → t.done i ≡ false → 0 < t.uses i → Inv limit room n count node total rest none 0 t → 0 < t.uses (node_in l)
          wanted-left t dt ut invt = omega (arith, owe t dt ut invt (node_in l), edge_same l)

          wanted-right : (t : State) → t.done i ≡ false → 0 < t.uses i → Inv limit room n count node total rest none 0 t → 0 < t.uses (node_in r)
          wanted-right t dt ut invt = omega (arith, owe t dt ut invt (node_in r), edge_same r)
      by-node d Malformed e fit ih = childless Malformed (finish i empty 0 s) e (λ j. refl) (λ w. refl) d refl (λ j. refl) refl

      unless : (b : Bool) → s.done i ≡ b → Ih
          → Post (eval_unless limit room b (node i) rec i s) (λ t. Pays s vs t (cond b vs (evaluates i ∷ children_first (node i) after vs)))
      unless true d ih = still s vs seen
      unless false d ih = by-node d (node i) refl (fits i) ih
