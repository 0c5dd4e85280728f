-- Evaluating a node keeps the invariant, and leaves the nodes after it alone.
use mathlib.Core.Path.{◌≡◌, refl, ap, ap₂, sym, ◌∙◌, subst}
use mathlib.Core.Bool.{Bool, true, false}
use Prim.Native.Nat.{ℕ, zero, suc, ◌+◌, ◌≤◌, ◌<◌, min}
use native.Mathlib.Nat.{not-suc-le-zero}
use native.Mathlib.Omega.{arith}
use borrow.Author.Tests.{eqb-true, eqb-false}
use lib.Dec.{eqb}
use Rattle.pauli.specs.Rows.{◌★◌, identity}
use Rattle.arena.specs.Types.{Pauli}
use Rattle.arena.specs.References.{node_in, phase_in}
use Rattle.arena.specs.Nodes.{PauliNode, Identity, Single, Product, Malformed, row_of, rows_to}
use Rattle.arena.specs.Sparse.{Sparse, empty, one, turned, size, multiply, dense}
use Rattle.arena.specs.Walk.{Out, State, worked, lent, less, finish, Taken, take_as, take_use, combine, eval_node, eval_unless, eval}
use Rattle.arena.specs.Code.WalkWords.{edge, edges, none, Right, Inv, Ordered}
use Rattle.arena.proofs.NodeRows.{row_is}
use Rattle.arena.proofs.Walk.Outcomes.{update_same, update_other, update-keeps, suc-of, Post, post-bind, post_map, charge-then, lend-then}
use Rattle.arena.proofs.DecodedNodes.{Fits, fits-older}
use Rattle.arena.proofs.SparseProducts.{dense-product, dense-empty, dense-one, product_proper, product-size}
use Rattle.arena.proofs.Walk.Uses.{edge_same, edge_other}
use Rattle.arena.proofs.Walk.Invariant.{Shows, less-uses, inv-worked, inv_debt, less-last, less-more, finish-inv, owes, right_shows}

-- what evaluating node i leaves alone
pub record After (i : ℕ) (s t : State) : Type 0 where
  pub marked : t.done i ≡ true
  pub later : (j : ℕ) → i < j → t.done j ≡ s.done j
  pub still : (j : ℕ) → s.done j ≡ true → t.done j ≡ true
  pub uses_from : (j : ℕ) → i ≤ j → t.uses j ≡ s.uses j

-- a use of the word w was consumed
pub record Took (limit room n count : ℕ) (node : ℕ → PauliNode) (total rest debt : ℕ → ℕ) (hand w : ℕ) (s : State) (a : Taken) : Type 0 where
  pub inv : Inv limit room n count node total rest (λ j. debt j + edge w j) (hand + size a.value) a.state
  pub value_is : a.value ≡ turned (phase_in w) (s.value (node_in w))
  pub done_is : a.state.done ≡ s.done
  pub values_are : a.state.value ≡ s.value
  pub uses_are : (j : ℕ) → a.state.uses j + edge w j ≡ s.uses j

after_trans : (l i : ℕ) (s t u : State) → l < i → After l s t → After i t u → After i s u
after_trans l i s t u h a b = record {
  marked = b.marked;
  later = λ j lj. b.later j lj ∙ a.later j (omega arith);
  still = λ j d. b.still j (a.still j d);
  uses_from = λ j lj. b.uses_from j lj ∙ a.uses_from j (omega arith);
}

pub after_finish : (i : ℕ) (v : Sparse) (hand : ℕ) (s t : State)
    → t.done ≡ s.done → ((j : ℕ) → i ≤ j → t.uses j ≡ s.uses j) → After i s (finish i v hand t)
after_finish i v hand s t d u = record {
  marked = update_same t.done i true;
  later = λ j l. update_other t.done i true j (λ e. omega arith) ∙ ap (λ f. f j) d;
  still = λ j h. update-keeps t.done i j (ap (λ f. f j) d ∙ h);
  uses_from = u;
}

module _ (limit room n count : ℕ) (node : ℕ → PauliNode) (total : ℕ → ℕ) where
  -- taking a use keeps the invariant: the factors taken are in hand
  pub take_post : (rest debt : ℕ → ℕ) (hand w : ℕ) (s : State) → node_in w < count → s.done (node_in w) ≡ true → 0 < s.uses (node_in w)
      → Inv limit room n count node total rest debt hand s → Post (take_use limit room w s) (Took limit room n count node total rest debt hand w s)
  take_post rest debt hand w s l d u inv = go (eqb (s.uses (node_in w)) 1) refl
    where
      value : Sparse
      value = s.value (node_in w)

      go : (b : Bool) → eqb (s.uses (node_in w)) 1 ≡ b
          → Post (take_as limit room b (turned (phase_in w) value) (less (node_in w) s)) (Took limit room n count node total rest debt hand w s)
      go true e = record {
        inv = less-last limit room n count node total rest debt hand w s l d (eqb-true (s.uses (node_in w)) 1 e) inv;
        value_is = refl;
        done_is = refl;
        values_are = refl;
        uses_are = λ j. less-uses s.uses w j u;
      }
      go false e =
          let k = suc-of (s.uses (node_in w)) u (eqb-false (s.uses (node_in w)) 1 e) in
          let v = less-more limit room n count node total rest debt hand w k.0 s l d k.1 inv in
          charge-then limit (size value) (less (node_in w) s) _ _ (λ paid.
          lend-then room (size value) (worked (size value) (less (node_in w) s)) _ _ (λ within.
          record {
            inv = record { right = v.right; counts = v.counts; fewer = v.fewer; holds = omega (arith, v.holds); within = within; paid = paid };
            value_is = refl;
            done_is = refl;
            values_are = refl;
            uses_are = λ j. less-uses s.uses w j u;
          }))

module _ (limit room n count : ℕ) (node : ℕ → PauliNode) (fits : (i : ℕ) → Fits n i (node i)) (total : ℕ → ℕ) where
  plain_right : (i : ℕ) (nd : PauliNode) (v : Sparse) → i < count → node i ≡ nd → Ordered n v → dense n v ≡ row_of n (rows_to n node count) nd
      → Right n count node i v
  plain_right i nd v h e p q = record {
    proper = p;
    means = q ∙ ap (row_of n (rows_to n node count)) (sym e) ∙ sym (row_is n node (λ j. fits-older n j (node j) (fits j)) count i h);
  }

  product_right : (i l r : ℕ) (u v : Sparse) → i < count → node i ≡ Product l r → Shows n count node l u → Shows n count node r v
      → Right n count node i (multiply u v)
  product_right i l r u v h e su sv = plain_right i (Product l r) (multiply u v) h e (product_proper n u v su.proper sv.proper)
      (dense-product n u v su.proper sv.proper ∙ ap₂ ◌★◌ su.means sv.means)

  -- node i is done, and the invariant holds

  abbrev pub Good : (ℕ → ℕ) → ℕ → State → State → Type 0
  Good rest i s t = Inv limit room n count node total rest none 0 t × After i s t

  -- both children are done: the product is computed
  pub combine-post : (rest : ℕ → ℕ) (i l r : ℕ) (s : State) → i < count → node_in l < i → node_in r < i → node i ≡ Product l r
      → s.done i ≡ false → 0 < s.uses i
      → s.done (node_in l) ≡ true → s.done (node_in r) ≡ true → Inv limit room n count node total rest none 0 s
      → Post (combine limit room l r i s) (Good rest i s)
  combine-post rest i l r s hi hl hr e di ui dl dr inv =
      post-bind (take_use limit room l s) _ (Took limit room n count node total rest none 0 l s) _
      (take_post limit room n count node total rest none 0 l s (omega arith) dl (omega (arith, owe (node_in l), edge_same l)) inv) (λ a ta.
      post-bind (take_use limit room r a.state) _ (Took limit room n count node total rest (λ j. none j + edge l j) (0 + size a.value) r a.state) _
      (take_post limit room n count node total rest (λ j. none j + edge l j) (0 + size a.value) r a.state (omega arith)
      (ap (λ f. f (node_in r)) ta.done_is ∙ dr) (omega (arith, owe (node_in r), edge_same r, ta.uses_are (node_in r))) ta.inv) (λ b tb.
      charge-then limit (min (size a.value) (size b.value)) b.state _ _ (λ paid. last a b paid ta tb)))
    where
      owe : (j : ℕ) → edge l j + edge r j ≤ s.uses j
      owe j = subst (λ nd. edges nd j ≤ s.uses j) e (owes limit room n count node total rest s i hi di ui inv j)

      last : (a b : Taken) → b.state.work + min (size a.value) (size b.value) ≤ limit
          → Took limit room n count node total rest none 0 l s a
          → Took limit room n count node total rest (λ j. none j + edge l j) (0 + size a.value) r a.state b
          → Good rest i s (finish i (multiply a.value b.value) (size a.value + size b.value) (worked (min (size a.value) (size b.value)) b.state))
      last a b paid ta tb = (
        finish-inv limit room n count node total rest i (multiply a.value b.value) (size a.value + size b.value) t hi
            (ap (λ f. f i) done-is ∙ di) (omega (arith, uses-is i (omega arith))) (product-size a.value b.value) right
            (inv_debt limit room n count node total rest (λ j. none j + edge l j + edge r j) (edges (node i)) (0 + size a.value + size b.value) _ t
            (λ j. let q : edges (node i) j ≡ edge l j + edge r j = ap (λ nd. edges nd j) e in omega arith) (omega arith)
            (inv-worked limit room n count node total rest _ _ _ b.state paid tb.inv)),
        after_finish i _ _ s t done-is uses-is,
      )
        where
          t : State
          t = worked (min (size a.value) (size b.value)) b.state

          done-is : b.state.done ≡ s.done
          done-is = tb.done_is ∙ ta.done_is

          uses-is : (j : ℕ) → i ≤ j → b.state.uses j ≡ s.uses j
          uses-is j h = omega (arith, tb.uses_are j, ta.uses_are j, edge_other l j (λ q. omega arith), edge_other r j (λ q. omega arith))

          left-shows : Shows n count node l a.value
          left-shows = rw ta.value_is (right_shows n count node l (s.value (node_in l)) (inv.right (node_in l) (omega arith) dl))

          right_is : b.value ≡ turned (phase_in r) (s.value (node_in r))
          right_is = tb.value_is ∙ ap (λ f. turned (phase_in r) (f (node_in r))) ta.values_are

          right : Right n count node i (multiply a.value b.value)
          right = product_right i l r a.value b.value hi e left-shows
              (rw right_is (right_shows n count node r (s.value (node_in r)) (inv.right (node_in r) (omega arith) dr)))

  -- a node with no child and no factor
  pub blank_good : (rest : ℕ → ℕ) (i : ℕ) (nd : PauliNode) (s : State) → i < count → s.done i ≡ false → 0 < s.uses i
      → node i ≡ nd → row_of n (rows_to n node count) nd ≡ identity n → ((j : ℕ) → edges nd j ≡ 0)
      → Inv limit room n count node total rest none 0 s → Good rest i s (finish i empty 0 s)
  blank_good rest i nd s hi d u e row no_edge inv = (
    finish-inv limit room n count node total rest i empty 0 s hi d u (omega arith) (plain_right i nd empty hi e tt (dense-empty n ∙ sym row))
        (inv_debt limit room n count node total rest none (edges (node i)) 0 0 s (λ j. sym (ap (λ nd. edges nd j) e ∙ no_edge j)) refl inv),
    after_finish i empty 0 s s refl (λ j l. refl),
  )

  pub single_good : (rest : ℕ → ℕ) (i q : ℕ) (a : Pauli) (s : State) → s.held + 1 ≤ room → i < count → s.done i ≡ false → 0 < s.uses i
      → node i ≡ Single q a → Fits n i (Single q a)
      → Inv limit room n count node total rest none 0 s → Good rest i s (finish i (one q a) 1 (lent 1 s))
  single_good rest i q a s within hi d u e fit inv = (
    finish-inv limit room n count node total rest i (one q a) 1 (lent 1 s) hi d u (omega arith)
        (plain_right i (Single q a) (one q a) hi e (omega arith, fit.0, fit.1, tt) (dense-one n q a))
        (record {
          right = inv.right;
          counts = λ j. let z : edges (node i) j ≡ 0 = ap (λ nd. edges nd j) e in omega (arith, inv.counts j);
          fewer = inv.fewer;
          holds = omega (arith, inv.holds);
          within = within;
          paid = inv.paid;
        }),
    after_finish i (one q a) 1 s (lent 1 s) refl (λ j l. refl),
  )

  -- evaluating a node with a use keeps the invariant
  pub eval-post : (rest : ℕ → ℕ) (f i : ℕ) (s : State) → i < f → i < count → 0 < s.uses i
      → Inv limit room n count node total rest none 0 s
      → Post (eval limit room node f i s) (Good rest i s)
  eval-post rest zero i s h hi u inv = absurd (not-suc-le-zero h)
  eval-post rest (suc f) i s h hi u inv = unless (s.done i) refl (λ j t hj. eval-post rest f j t (omega arith))
    where
      rec : ℕ → State → Out State
      rec j t = eval limit room node f j t

      Ih : Type 0
      Ih = (j : ℕ) (t : State) → j < i → j < count → 0 < t.uses j → Inv limit room n count node total rest none 0 t → Post (rec j t) (Good rest j t)

      by-node : s.done i ≡ false → (nd : PauliNode) → node i ≡ nd → Fits n i nd → Ih → Post (eval_node limit room nd rec i s) (Good rest i s)
      by-node d Identity e fit ih = blank_good rest i Identity s hi d u e refl (λ j. refl) inv
      by-node d (Single q a) e fit ih = lend-then room 1 s _ _ (λ within. single_good rest i q a s within hi d u e fit inv)
      by-node d (Product l r) e fit ih =
          post-bind (rec (node_in l) s) _ (Good rest (node_in l) s) _
          (ih (node_in l) s fit.0 (omega (arith, fit.0)) (omega (arith, owe s d u inv (node_in l), edge_same l)) inv) (λ t g.
          post-bind (rec (node_in r) t) _ (Good rest (node_in r) t) _
          (ih (node_in r) t fit.1 (omega (arith, fit.1))
          (omega (arith, owe t (g.1.later i fit.0 ∙ d) (omega (arith, g.1.uses_from i (omega (arith, fit.0)))) g.0 (node_in r), edge_same r)) g.0) (λ t' g'.
          post_map (combine limit room l r i t') (Good rest i t') _
          (combine-post rest i l r t' hi fit.0 fit.1 e (g'.1.later i fit.1 ∙ g.1.later i fit.0 ∙ d)
          (omega (arith, g.1.uses_from i (omega (arith, fit.0)), g'.1.uses_from i (omega (arith, fit.1))))
          (g'.1.still (node_in l) g.1.marked) g'.1.marked g'.0)
          (λ t'' g''. (g''.0, after_trans (node_in l) i s t t'' fit.0 g.1 (after_trans (node_in r) i t t' t'' fit.1 g'.1 g''.1)))))
        where
          owe : (t : State) → t.done i ≡ false → 0 < t.uses i → Inv limit room n count node total rest none 0 t → (j : ℕ) → edge l j + edge r j ≤ t.uses j
          owe t dt ut invt j = subst (λ nd. edges nd j ≤ t.uses j) e (owes limit room n count node total rest t i hi dt ut invt j)
      by-node d Malformed e fit ih = blank_good rest i Malformed s hi d u e refl (λ j. refl) inv

      unless : (b : Bool) → s.done i ≡ b → Ih → Post (eval_unless limit room b (node i) rec i s) (Good rest i s)
      unless true d ih = (inv, record { marked = d; later = λ j l. refl; still = λ j h. h; uses_from = λ j l. refl })
      unless false d ih = by-node d (node i) refl (fits i) ih

  -- both children of a product are done after it is evaluated
  pub eval-children : (rest : ℕ → ℕ) (f i l r : ℕ) (s : State) → i < f → i < count → 0 < s.uses i → s.done i ≡ false → node i ≡ Product l r
      → Inv limit room n count node total rest none 0 s
      → Post (eval limit room node f i s) (λ t. (t.done (node_in l) ≡ true) × (t.done (node_in r) ≡ true))
  eval-children rest zero i l r s h hi u d e inv = absurd (not-suc-le-zero h)
  eval-children rest (suc f) i l r s h hi u d e inv = rw (d, e)
      (post-bind (eval limit room node f (node_in l) s) _ (Good rest (node_in l) s) _
      (eval-post rest f (node_in l) s (omega (arith, fit.0)) (omega (arith, fit.0)) (omega (arith, owe s d u inv (node_in l), edge_same l)) inv) (λ t g.
      post-bind (eval limit room node f (node_in r) t) _ (Good rest (node_in r) t) _
      (eval-post rest f (node_in r) t (omega (arith, fit.1)) (omega (arith, fit.1))
      (omega (arith, owe t (g.1.later i fit.0 ∙ d) (omega (arith, g.1.uses_from i (omega (arith, fit.0)))) g.0 (node_in r), edge_same r)) g.0) (λ t' g'.
      post_map (combine limit room l r i t') (Good rest i t') _
      (combine-post rest i l r t' hi fit.0 fit.1 e (g'.1.later i fit.1 ∙ g.1.later i fit.0 ∙ d)
      (omega (arith, g.1.uses_from i (omega (arith, fit.0)), g'.1.uses_from i (omega (arith, fit.1))))
      (g'.1.still (node_in l) g.1.marked) g'.1.marked g'.0)
      (λ t'' g''. (g''.1.still (node_in l) (g'.1.still (node_in l) g.1.marked), g''.1.still (node_in r) g'.1.marked)))))
    where
      fit : Fits n i (Product l r)
      fit = subst (Fits n i) e (fits i)

      owe : (t : State) → t.done i ≡ false → 0 < t.uses i → Inv limit room n count node total rest none 0 t → (j : ℕ) → edge l j + edge r j ≤ t.uses j
      owe t dt ut invt j = subst (λ nd. edges nd j ≤ t.uses j) e (owes limit room n count node total rest t i hi dt ut invt j)
