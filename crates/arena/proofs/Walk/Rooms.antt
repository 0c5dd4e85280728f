-- kept: claims, which Theorems.antt takes from here as a module
-- Where node 0 is the identity, a record for each qubit of each node is room enough: no walk is then refused for its records.
use mathlib.Core.Path.{◌≡◌, refl, ap, sym, ◌∙◌, subst}
use mathlib.Core.Logic.{◌≢◌}
use mathlib.Core.Bool.{Bool, true, false, cond}
use mathlib.Core.List.{List, [], ◌∷◌}
use Prim.Native.Nat.{ℕ, zero, suc, ◌+◌, ◌*◌, ◌≤◌, ◌<◌, min}
use native.Mathlib.Nat.{not-suc-le-zero}
use native.Mathlib.Decide.{ℕ_discrete}
use native.Mathlib.Omega.{arith}
use borrow.Author.Tests.{leb-true, leb-false}
use lib.Dec.{leb, eqb}
use lib.ListN.{length}
use Rattle.pauli.specs.Rows.{Row, weight}
use Rattle.arena.specs.Errors.{PbcError, ExpansionLimit, NoPool}
use Rattle.arena.specs.References.{node_in, phase_in}
use Rattle.arena.specs.Nodes.{PauliNode, Identity, Single, Product, Malformed, node_at, row_of, rows_to}
use Rattle.arena.specs.Sparse.{Sparse, empty, turned, size}
use Rattle.arena.specs.Walk.{Named, Out, fine, refused, bind, update, State, worked, lent, less, charge, lend, release, take_as, take_use, combine, eval_node, eval_unless, eval, Walked, show_roots, walk_nodes, root_uses, scan, walk_begin, walk}
use Rattle.arena.specs.Code.WalkWords.{sum, edge, edges, kept, stand, none, Right, Inv}
use Rattle.arena.proofs.NodeRows.{row_is}
use Rattle.arena.proofs.Walk.Outcomes.{update_same, update_other, Post}
use Rattle.arena.proofs.DecodedNodes.{Fits, fits-older, node_fits}
use Rattle.arena.proofs.SparseProducts.{size-weight, dense-empty}
use Rattle.arena.proofs.Walk.Sums.{sum-change}
use Rattle.arena.proofs.Walk.Uses.{edge_same}
use Rattle.arena.proofs.Walk.Bounds.{size_few}
use Rattle.arena.proofs.Walk.Invariant.{inv-worked, owes}
use Rattle.arena.proofs.Walk.Evaluates.{Took, Good, take_post, eval-post}
use Rattle.arena.proofs.Walk.Means.{root_used, release-inv, begin_inv}

-- ---- answered, or refused for the work

abbrev Safe : {A : Type 0} → Out A → Type 0
Safe (fine a) = Unit {0}
Safe (refused e) = e ≡ ExpansionLimit

safe-bind : {A B : Type 0} (x : Out A) (k : A → Out B) (P : A → Type 0) → Safe x → Post x P → ((a : A) → P a → Safe (k a)) → Safe (bind x k)
safe-bind (fine a) k P s p h = h a p
safe-bind (refused e) k P s p h = s

charge-safe : {B : Type 0} (limit amount : ℕ) (s : State) (k : State → Out B) → (s.work + amount ≤ limit → Safe (k (worked amount s))) → Safe (bind (charge limit amount s) k)
charge-safe limit amount s k h = go (leb (s.work + amount) limit) refl
  where
    go : (b : Bool) → leb (s.work + amount) limit ≡ b → Safe (bind (cond b (fine (worked amount s)) (refused ExpansionLimit)) k)
    go true e = h (leb-true (s.work + amount) limit e)
    go false e = refl

lend-safe : {B : Type 0} (room amount : ℕ) (s : State) (k : State → Out B) → s.held + amount ≤ room → Safe (k (lent amount s)) → Safe (bind (lend room amount s) k)
lend-safe room amount s k l h = go (leb (s.held + amount) room) refl
  where
    go : (b : Bool) → leb (s.held + amount) room ≡ b → Safe (bind (cond b (fine (lent amount s)) (refused NoPool)) k)
    go true e = h
    go false e = absurd (omega (arith, leb-false (s.held + amount) room e))

take_safe : (limit room w : ℕ) (s : State) → s.held + size (s.value (node_in w)) ≤ room → Safe (take_use limit room w s)
take_safe limit room w s h = go (eqb (s.uses (node_in w)) 1)
  where
    v : Sparse
    v = turned (phase_in w) (s.value (node_in w))

    go : (b : Bool) → Safe (take_as limit room b v (less (node_in w) s))
    go true = tt
    go false = charge-safe limit (size v) (less (node_in w) s) _ (λ paid. lend-safe room (size v) (worked (size v) (less (node_in w) s)) _ h tt)

-- ---- sums with two empty places

sum-le : (k : ℕ) (f g : ℕ → ℕ) → ((j : ℕ) → j < k → f j ≤ g j) → sum k f ≤ sum k g
sum-le zero f g h = omega arith
sum-le (suc k) f g h = omega (arith, sum-le k f g (λ j l. h j (omega arith)), h k (omega arith))

two-empty : (k m i : ℕ) (f : ℕ → ℕ) → ((j : ℕ) → j < k → f j ≤ m) → i < k → i ≢ 0 → f i ≡ 0 → f 0 ≡ 0 → sum k f + (m + m) ≤ sum k (λ j. m)
two-empty k m i f few low other at_i at-0 = omega (arith, sum-le k f second smaller, first-change, second-change, first-0, second-i, first-i)
  where
    first : ℕ → ℕ
    first = update (λ j. m) 0 0

    second : ℕ → ℕ
    second = update first i 0

    first-0 : first 0 ≡ 0
    first-0 = update_same (λ j. m) 0 0

    first-i : first i ≡ m
    first-i = update_other (λ j. m) 0 0 i other

    second-i : second i ≡ 0
    second-i = update_same first i 0

    first-change : sum k (λ j. m) + first 0 ≡ sum k first + m
    first-change = sum-change k (λ j. m) first 0 (omega arith) (λ j ne. sym (update_other (λ j. m) 0 0 j ne))

    second-change : sum k first + second i ≡ sum k second + first i
    second-change = sum-change k first second i low (λ j ne. sym (update_other first i 0 j ne))

    smaller : (j : ℕ) → j < k → f j ≤ second j
    smaller j l = go (ℕ_discrete j i) (ℕ_discrete j 0)
      where
        go : Dec (j ≡ i) → Dec (j ≡ 0) → f j ≤ second j
        go (yes e) d = omega (arith, ap f e, at_i)
        go (no a) (yes e) = omega (arith, ap f e, at-0)
        go (no a) (no b) = omega (arith, update_other first i 0 j a, update_other (λ j. m) 0 0 j b, few j l)

sum-const : (k m : ℕ) → sum k (λ j. m) ≡ m * k
sum-const zero m = omega arith
sum-const (suc k) m = omega (arith, sum-const k m)

kept-few : (b : Bool) (u k m : ℕ) → (b ≡ true → k ≤ m) → kept b u k ≤ m
kept-few true zero k m h = omega arith
kept-few true (suc u) k m h = h refl
kept-few false u k m h = omega arith

-- ---- the walk

module _ (limit room n count : ℕ) (node : ℕ → PauliNode) (fits : (i : ℕ) → Fits n i (node i)) (total : ℕ → ℕ) (first-is : node 0 ≡ Identity) (enough : n * count ≤ room) where
  size-at : (j : ℕ) (v : Sparse) → Right n count node j v → size v ≤ n
  size-at j v r = size_few n v r.proper

  -- the identity has no factor
  none-at : (v : Sparse) → 0 < count → Right n count node 0 v → size v ≡ 0
  none-at v l r =
      sym (size-weight n v r.proper)
      ∙ ap (λ (P : Row). weight P.letters)
      (r.means ∙ row_is n node (λ j. fits-older n j (node j) (fits j)) count 0 l ∙ ap (row_of n (rows_to n node count)) first-is ∙ sym (dense-empty n))
      ∙ size-weight n empty tt

  -- while node i is not done, there is room for two values besides those that stand
  two_fit : (rest debt : ℕ → ℕ) (hand i : ℕ) (s : State) → i < count → i ≢ 0 → s.done i ≡ false → Inv limit room n count node total rest debt hand s
      → stand count s + (n + n) ≤ room
  two_fit rest debt hand i s low other d inv =
      omega (arith, enough, sum-const count n, two-empty count n i f few low other (ap (λ b. kept b (s.uses i) (size (s.value i))) d) at-0)
    where
      f : ℕ → ℕ
      f j = kept (s.done j) (s.uses j) (size (s.value j))

      few : (j : ℕ) → j < count → f j ≤ n
      few j l = kept-few (s.done j) (s.uses j) (size (s.value j)) n (λ e. size-at j (s.value j) (inv.right j l e))

      at-0 : f 0 ≡ 0
      at-0 = let z = kept-few (s.done 0) (s.uses 0) (size (s.value 0)) 0 (λ e. omega (arith, none-at (s.value 0) (omega arith) (inv.right 0 (omega arith) e))) in omega arith

  combine-safe : (rest : ℕ → ℕ) (i l r : ℕ) (s : State) → i < count → i ≢ 0 → node_in l < count → node_in r < count → s.done i ≡ false
      → ((j : ℕ) → edge l j + edge r j ≤ s.uses j) → s.done (node_in l) ≡ true → s.done (node_in r) ≡ true
      → Inv limit room n count node total rest none 0 s → Safe (combine limit room l r i s)
  combine-safe rest i l r s hi other hl hr di owe dl dr inv =
      safe-bind (take_use limit room l s) _ (Took limit room n count node total rest none 0 l s)
      (take_safe limit room l s (omega (arith, inv.holds, two_fit rest none 0 i s hi other di inv, size-at (node_in l) (s.value (node_in l)) (inv.right (node_in l) hl dl))))
      (take_post limit room n count node total rest none 0 l s hl dl (omega (arith, owe (node_in l), edge_same l)) inv) (λ a ta.
      let d = ap (λ f. f i) ta.done_is ∙ di in
      let e = ap (λ f. f (node_in r)) ta.done_is ∙ dr in
      safe-bind (take_use limit room r a.state) _ (Took limit room n count node total rest (λ j. none j + edge l j) (0 + size a.value) r a.state)
      (take_safe limit room r a.state (omega (
        arith,
        ta.inv.holds,
        two_fit rest (λ j. none j + edge l j) (0 + size a.value) i a.state hi other d ta.inv,
        size-at (node_in r) (a.state.value (node_in r)) (ta.inv.right (node_in r) hr e),
        size-at (node_in l) (s.value (node_in l)) (inv.right (node_in l) hl dl),
        ap size ta.value_is,
      )))
      (take_post limit room n count node total rest (λ j. none j + edge l j) (0 + size a.value) r a.state hr e
      (omega (arith, owe (node_in r), edge_same r, ta.uses_are (node_in r))) ta.inv) (λ b tb.
      charge-safe limit (min (size a.value) (size b.value)) b.state _ (λ paid. tt)))

  eval-safe : (rest : ℕ → ℕ) (f i : ℕ) (s : State) → i < f → i < count → 0 < s.uses i → Inv limit room n count node total rest none 0 s → Safe (eval limit room node f i s)
  eval-safe rest zero i s h hi u inv = absurd (not-suc-le-zero h)
  eval-safe rest (suc f) i s h hi u inv = unless (s.done i) refl (λ j t hj. eval-safe rest f j t (omega arith))
    where
      rec : ℕ → State → Out State
      rec j t = eval limit room node f j t

      Ih : Type 0
      Ih = (j : ℕ) (t : State) → j < i → j < count → 0 < t.uses j → Inv limit room n count node total rest none 0 t → Safe (rec j t)

      by-node : s.done i ≡ false → (nd : PauliNode) → node i ≡ nd → Fits n i nd → Ih → Safe (eval_node limit room nd rec i s)
      by-node d Identity e fit ih = tt
      by-node d (Single q a) e fit ih =
          lend-safe room 1 s _ (omega (arith, inv.holds, fit.0, two_fit rest none 0 i s hi not_first d inv)) tt
        where
          not_first : i ≢ 0
          not_first z = let c : Identity ≡ Single q a = sym first-is ∙ ap node (sym z) ∙ e in let y : ◌≡◌ {A = ℕ} 0 1 = cc in omega arith
      by-node d (Product l r) e fit ih =
          safe-bind (rec (node_in l) s) _ (Good limit room n count node fits total rest (node_in l) s)
          (ih (node_in l) s fit.0 (omega (arith, fit.0)) (wanted-left s d u inv) inv)
          (eval-post limit room n count node fits total rest f (node_in l) s (omega (arith, fit.0)) (omega (arith, fit.0)) (wanted-left s d u inv) inv) (λ t g.
          let dt = g.1.later i fit.0 ∙ d in
          let ut : 0 < t.uses i = omega (arith, g.1.uses_from i (omega (arith, fit.0))) in
          safe-bind (rec (node_in r) t) _ (Good limit room n count node fits total rest (node_in r) t)
          (ih (node_in r) t fit.1 (omega (arith, fit.1)) (wanted-right t dt ut g.0) g.0)
          (eval-post limit room n count node fits total rest f (node_in r) t (omega (arith, fit.1)) (omega (arith, fit.1)) (wanted-right t dt ut g.0) g.0) (λ t' g'.
          let d' = g'.1.later i fit.1 ∙ dt in
          let u' : 0 < t'.uses i = omega (arith, g'.1.uses_from i (omega (arith, fit.1))) in
          combine-safe rest i l r t' hi (λ z. omega (arith, fit.0)) (omega (arith, fit.0)) (omega (arith, fit.1)) d' (owe t' d' u' g'.0)
          (g'.1.still (node_in l) g.1.marked) g'.1.marked g'.0))
        where
          owe : (t : State) → t.done i ≡ false → 0 < t.uses i → Inv limit room n count node total rest none 0 t → (j : ℕ) → edge l j + edge r j ≤ t.uses j
          owe t dt ut invt j = subst (λ nd. edges nd j ≤ t.uses j) e (owes limit room n count node total rest t i hi dt ut invt j)

          wanted-left : (t : State) → t.done i ≡ false → 0 < t.uses i → Inv limit room n count node total rest none 0 t → 0 < t.uses (node_in l)
          wanted-left t dt ut invt = omega (arith, owe t dt ut invt (node_in l), edge_same l)

          wanted-right : (t : State) → t.done i ≡ false → 0 < t.uses i → Inv limit room n count node total rest none 0 t → 0 < t.uses (node_in r)
          wanted-right t dt ut invt = omega (arith, owe t dt ut invt (node_in r), edge_same r)
      by-node d Malformed e fit ih = tt

      unless : (b : Bool) → s.done i ≡ b → Ih → Safe (eval_unless limit room b (node i) rec i s)
      unless true d ih = tt
      unless false d ih = by-node d (node i) refl (fits i) ih

  show_safe : (ws : List ℕ) (s : State) → Named count ws → Inv limit room n count node total (root_uses ws) none 0 s → Safe (show_roots limit room node count ws s)
  show_safe [] s h inv = tt
  show_safe (w ∷ ws) s h inv =
      let u = root_used limit room n count node fits total w ws s inv in
      safe-bind (eval limit room node count (node_in w) s) _ (Good limit room n count node fits total (root_uses (w ∷ ws)) (node_in w) s)
      (eval-safe (root_uses (w ∷ ws)) count (node_in w) s h.0 h.0 u inv)
      (eval-post limit room n count node fits total (root_uses (w ∷ ws)) count (node_in w) s h.0 h.0 u inv) (λ t g.
      charge-safe limit (size (t.value (node_in w))) t _ (λ paid.
      safe-bind (show_roots limit room node count ws (release (node_in w) (worked (size (t.value (node_in w))) t))) _ (λ r. Unit {0})
      (show_safe ws _ h.1
      (release-inv limit room n count node fits total w ws (worked (size (t.value (node_in w))) t) h.0 g.1.marked
      (inv-worked limit room n count node total (root_uses (w ∷ ws)) none 0 (size (t.value (node_in w))) t paid g.0)))
      (any (show_roots limit room node count ws (release (node_in w) (worked (size (t.value (node_in w))) t)))) (λ r k. tt)))
    where
      any : (x : Out Walked) → Post x (λ r. Unit {0})
      any (fine r) = tt
      any (refused e) = tt

-- a walk with that room is refused for its work alone
pub room_enough : (limit room n count : ℕ) (words roots : List ℕ) (e : PbcError) → Named count roots → node_at n words 0 ≡ Identity → n * count ≤ room
    → walk limit room n count words roots ≡ refused e → e ≡ ExpansionLimit
unfolding walk
room_enough limit room n count words roots e h f l q = subst Safe q
    (safe-bind (walk_nodes limit room node count roots) _ (λ r. Unit {0})
    (charge-safe limit (length roots + (scan node count (root_uses roots)).reached) (walk_begin (scan node count (root_uses roots))) _ (λ paid.
    show_safe limit room n count node (node_fits n words) (scan node count (root_uses roots)).uses f l roots _ h
    (begin_inv limit room n count node (node_fits n words) roots _ paid)))
    (any (walk_nodes limit room node count roots)) (λ r k. tt))
  where
    node : ℕ → PauliNode
    node = node_at n words

    any : (x : Out Walked) → Post x (λ r. Unit {0})
    any (fine r) = tt
    any (refused e) = tt
