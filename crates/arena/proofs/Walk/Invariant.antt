-- The walk's invariant, and how consuming a use and finishing a node keep it.
use mathlib.Core.Path.{◌≡◌, refl, ap, ap₂, sym, ◌∙◌, subst}
use mathlib.Core.Bool.{Bool, true, false, cond}
use Prim.Native.Nat.{ℕ, zero, suc, ◌+◌, ◌-◌, ◌≤◌, ◌<◌}
use native.Mathlib.Nat.{not-suc-le-zero}
use native.Mathlib.Omega.{arith}
use borrow.Author.Tests.{eqb-true, eqb-false}
use lib.Dec.{eqb}
use Rattle.pauli.specs.Rows.{scaled}
use Rattle.arena.specs.References.{node_in, phase_in}
use Rattle.arena.specs.Nodes.{PauliNode, image_in, rows_to}
use Rattle.arena.specs.Sparse.{Sparse, turned, size, dense}
use Rattle.arena.specs.Walk.{update, State, worked, less, finish}
use Rattle.arena.specs.Code.WalkWords.{pend, kept, stand, none, Right, Inv, sum, edge, edges, owed, Ordered}
use Rattle.arena.proofs.Walk.Outcomes.{update_same, update_other}
use Rattle.arena.proofs.SparseProducts.{dense-turned}
use Rattle.arena.proofs.Walk.Sums.{sum-at, sum-change}
use Rattle.arena.proofs.Walk.Uses.{owed-reached}

kept-used : (u k : ℕ) → 0 < u → kept true u k ≡ k
kept-used zero k h = absurd (not-suc-le-zero h)
kept-used (suc u) k h = refl

-- v is a value of the word w
pub record Shows (n count : ℕ) (node : ℕ → PauliNode) (w : ℕ) (v : Sparse) : Type 0 where
  pub proper : Ordered n v
  pub means : dense n v ≡ image_in n (rows_to n node count) w

-- a node's value, with a word's phase in front
pub right_shows : (n count : ℕ) (node : ℕ → PauliNode) (w : ℕ) (v : Sparse) → Right n count node (node_in w) v → Shows n count node w (turned (phase_in w) v)
right_shows n count node w v r = record { proper = r.proper; means = dense-turned n (phase_in w) v ∙ ap (scaled (phase_in w)) r.means }

-- ---- one use less

pub less-uses : (u : ℕ → ℕ) (w j : ℕ) → 0 < u (node_in w) → update u (node_in w) (u (node_in w) - 1) j + edge w j ≡ u j
less-uses u w j h = go (eqb j (node_in w)) refl
  where
    go : (b : Bool) → eqb j (node_in w) ≡ b → cond b (u (node_in w) - 1) (u j) + cond b 1 0 ≡ u j
    go true e = omega (arith, ap u (eqb-true j (node_in w) e))
    go false e = omega arith

-- with one use less the value may no longer stand
stand-less : (count : ℕ) (s : State) (j m : ℕ) → j < count → s.done j ≡ true → s.uses j ≡ suc m
    → stand count s + kept true m (size (s.value j)) ≡ stand count (less j s) + size (s.value j)
stand-less count s j m l d e = omega (arith, change, before, after)
  where
    f : ℕ → ℕ
    f i = kept (s.done i) (s.uses i) (size (s.value i))

    g : ℕ → ℕ
    g i = kept (s.done i) (update s.uses j (s.uses j - 1) i) (size (s.value i))

    change : sum count f + g j ≡ sum count g + f j
    change = sum-change count f g j l (λ i ne.
        ap (λ u. kept (s.done i) u (size (s.value i))) (sym (update_other s.uses j (s.uses j - 1) i ne)))

    before : f j ≡ size (s.value j)
    before = ap₂ (λ b u. kept b u (size (s.value j))) d e

    after : g j ≡ kept true m (size (s.value j))
    after = let q : s.uses j - 1 ≡ m = omega arith in ap₂ (λ b u. kept b u (size (s.value j))) d (update_same s.uses j (s.uses j - 1) ∙ q)

module _ (limit room n count : ℕ) (node : ℕ → PauliNode) (total : ℕ → ℕ) where
  -- work within the limit
  pub inv-worked : (rest debt : ℕ → ℕ) (hand amount : ℕ) (s : State) → s.work + amount ≤ limit
      → Inv limit room n count node total rest debt hand s → Inv limit room n count node total rest debt hand (worked amount s)
  inv-worked rest debt hand amount s h v = record { right = v.right; counts = v.counts; fewer = v.fewer; holds = v.holds; within = v.within; paid = h }

  -- the same debt and hand, written otherwise
  pub inv_debt : (rest debt debt' : ℕ → ℕ) (hand hand' : ℕ) (s : State) → ((j : ℕ) → debt j ≡ debt' j) → hand ≡ hand'
      → Inv limit room n count node total rest debt hand s → Inv limit room n count node total rest debt' hand' s
  inv_debt rest debt debt' hand hand' s e h v = record {
    right = v.right;
    counts = λ j. omega (arith, v.counts j, e j);
    fewer = v.fewer;
    holds = omega (arith, v.holds);
    within = v.within;
    paid = v.paid;
  }

  -- consuming a use: the last hands over the value's records
  pub less-last : (rest debt : ℕ → ℕ) (hand w : ℕ) (s : State) → node_in w < count → s.done (node_in w) ≡ true → s.uses (node_in w) ≡ 1
      → Inv limit room n count node total rest debt hand s
      → Inv limit room n count node total rest (λ j. debt j + edge w j) (hand + size (s.value (node_in w))) (less (node_in w) s)
  less-last rest debt hand w s l d e v = record {
    right = v.right;
    counts = λ j. omega (arith, v.counts j, less-uses s.uses w j (omega arith));
    fewer = λ j. omega (arith, v.fewer j, less-uses s.uses w j (omega arith));
    holds = omega (arith, v.holds, stand-less count s (node_in w) 0 l d e);
    within = v.within;
    paid = v.paid;
  }

  -- an earlier one does not
  pub less-more : (rest debt : ℕ → ℕ) (hand w m : ℕ) (s : State) → node_in w < count → s.done (node_in w) ≡ true → s.uses (node_in w) ≡ suc (suc m)
      → Inv limit room n count node total rest debt hand s → Inv limit room n count node total rest (λ j. debt j + edge w j) hand (less (node_in w) s)
  less-more rest debt hand w m s l d e v = record {
    right = v.right;
    counts = λ j. omega (arith, v.counts j, less-uses s.uses w j (omega arith));
    fewer = λ j. omega (arith, v.fewer j, less-uses s.uses w j (omega arith));
    holds = omega (arith, v.holds, stand-less count s (node_in w) (suc m) l d e);
    within = v.within;
    paid = v.paid;
  }

  -- a node finished: its debt is paid, its value stands
  pub finish-inv : (rest : ℕ → ℕ) (i : ℕ) (v : Sparse) (hand : ℕ) (s : State)
      → i < count → s.done i ≡ false → 0 < s.uses i → size v ≤ hand → Right n count node i v
      → Inv limit room n count node total rest (edges (node i)) hand s
      → Inv limit room n count node total rest none 0 (finish i v hand s)
  finish-inv rest i v hand s l d u few r inv = record {
    right = λ j lj dj. right-at j lj dj (eqb j i) refl;
    counts = λ j. omega (arith, inv.counts j, owed-change j);
    fewer = inv.fewer;
    holds = omega (arith, inv.holds, stand-change);
    within = omega (arith, inv.holds, inv.within);
    paid = inv.paid;
  }
    where
      right-at : (j : ℕ) → j < count → update s.done i true j ≡ true → (b : Bool) → eqb j i ≡ b → Right n count node j (update s.value i v j)
      right-at j lj dj true e = let q = eqb-true j i e in
          subst (λ k. Right n count node k (update s.value i v k)) (sym q) (rw (update_same s.value i v) r)
      right-at j lj dj false e = let h = eqb-false j i e in
          rw (update_other s.value i v j h) (inv.right j lj (sym (update_other s.done i true j h) ∙ dj))

      owed-change : (j : ℕ) → pend count node total s.done j ≡ pend count node total (update s.done i true) j + edges (node i) j
      owed-change j = omega (arith, change, before, after)
        where
          f : ℕ → ℕ
          f k = owed (s.done k) (total k) (edges (node k) j)

          g : ℕ → ℕ
          g k = owed (update s.done i true k) (total k) (edges (node k) j)

          change : sum count f + g i ≡ sum count g + f i
          change = sum-change count f g i l (λ k ne. ap (λ b. owed b (total k) (edges (node k) j)) (sym (update_other s.done i true k ne)))

          before : f i ≡ edges (node i) j
          before = ap (λ b. owed b (total i) (edges (node i) j)) d ∙ owed-reached (total i) (edges (node i) j) (omega (arith, inv.fewer i))

          after : g i ≡ 0
          after = ap (λ b. owed b (total i) (edges (node i) j)) (update_same s.done i true)

      stand-change : stand count (finish i v hand s) ≡ stand count s + size v
      stand-change = omega (arith, change, before, after)
        where
          f : ℕ → ℕ
          f k = kept (s.done k) (s.uses k) (size (s.value k))

          g : ℕ → ℕ
          g k = kept (update s.done i true k) (s.uses k) (size (update s.value i v k))

          change : sum count f + g i ≡ sum count g + f i
          change = sum-change count f g i l (λ k ne.
              ap₂ (λ b x. kept b (s.uses k) (size x)) (sym (update_other s.done i true k ne)) (sym (update_other s.value i v k ne)))

          before : f i ≡ 0
          before = ap (λ b. kept b (s.uses i) (size (s.value i))) d

          after : g i ≡ size v
          after = ap₂ (λ b x. kept b (s.uses i) (size x)) (update_same s.done i true) (update_same s.value i v) ∙ kept-used (s.uses i) (size v) u

  -- a node that is reachable and not done is owed the uses of its children
  pub owes : (rest : ℕ → ℕ) (s : State) (i : ℕ) → i < count → s.done i ≡ false → 0 < s.uses i
      → Inv limit room n count node total rest none 0 s → (j : ℕ) → edges (node i) j ≤ s.uses j
  owes rest s i l d u inv j = omega (arith, inv.counts j, sum-at count (λ k. owed (s.done k) (total k) (edges (node k) j)) i l, mine)
    where
      mine : owed (s.done i) (total i) (edges (node i) j) ≡ edges (node i) j
      mine = ap (λ b. owed b (total i) (edges (node i) j)) d ∙ owed-reached (total i) (edges (node i) j) (omega (arith, inv.fewer i))
