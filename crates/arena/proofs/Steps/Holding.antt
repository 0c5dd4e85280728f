-- kept: claims, which Theorems.antt takes from here as a module
-- At every step of a walk the records held are the factors of the values that stand and of those in hand.
use mathlib.Core.Path.{◌≡◌, refl, ap, ◌∙◌, subst}
use mathlib.Core.Bool.{Bool, true, false}
use mathlib.Core.List.{List}
use Prim.Native.Nat.{ℕ, zero, suc, ◌+◌, ◌≤◌}
use native.Mathlib.Nat.{not-suc-le-zero}
use native.Mathlib.Omega.{arith}
use Rattle.arena.specs.References.{node_in}
use Rattle.arena.specs.Nodes.{PauliNode, Product, node_at}
use Rattle.arena.specs.Sparse.{Sparse, size}
use Rattle.arena.specs.Walk.{fine, State, Taken, take_use}
use Rattle.arena.specs.Pool.{Who}
use Rattle.arena.specs.Code.Results.{Ledger}
use Rattle.arena.specs.Code.WalkWords.{sum, edge, edges, none, kept, stand, value_at, Marks, Rep, Walking, Combining}
use Rattle.arena.specs.Code.Records.{standing, factors_at}
use Rattle.arena.proofs.Walk.Outcomes.{post-fine}
use Rattle.arena.proofs.DecodedNodes.{Fits, node_fits}
use Rattle.arena.proofs.Walk.Sums.{sum-cong}
use Rattle.arena.proofs.Walk.Uses.{edge_same}
use Rattle.arena.proofs.Walk.Invariant.{owes}
use Rattle.arena.proofs.Walk.Evaluates.{Took, take_post}

-- ---- the scratch words say what stands

standing-is : (b : Bool) (u : ℕ) (v : Sparse) (w : ℕ) → Marks b v w → standing u w ≡ kept b u (size v)
standing-is true zero v w m = refl
standing-is true (suc u) v zero m = absurd (not-suc-le-zero m.0)
standing-is true (suc u) v (suc w) m = m.1
standing-is false zero v w m = refl
standing-is false (suc u) v w m = ap (standing (suc u)) m

module _ (count room : ℕ) (l p : List ℕ) (left : Ledger) (who : Who) (s : State) (rep : Rep count room l p left who s) where
  stands_is : sum count (factors_at l) ≡ stand count s
  stands_is = sum-cong count (factors_at l) (λ j. kept (s.done j) (s.uses j) (size (s.value j))) (λ j low.
      ap (λ u. standing u (value_at l j)) (rep.scratch.uses_are j low) ∙ standing-is (s.done j) (s.uses j) (s.value j) (value_at l j) (rep.scratch.marks_are j low))

  held_in_words : (hand : ℕ) → s.held ≡ stand count s + hand → left.spare + (sum count (factors_at l) + hand) ≡ room
  held_in_words hand h = omega (arith, h, stands_is, rep.balance)

-- ---- at rest

pub rest_holds : (words l p : List ℕ) (count limit : ℕ) (left : Ledger) (g : Walking words l p count limit left) → left.spare + sum count (factors_at l) ≡ g.room
rest_holds words l p count limit left g =
    omega (arith, held_in_words count g.room l p left g.who g.s g.rep 0 g.inv.holds)

-- ---- one value in hand, then two

module _ (l p : List ℕ) (limit i lw rt : ℕ) (left : Ledger) (g : Combining l p limit i lw rt left) where
  abbrev room : ℕ
  room = g.at.room

  abbrev node : ℕ → PauliNode
  node = node_at g.at.n g.words

  fit : Fits g.at.n i (Product lw rt)
  fit = subst (Fits g.at.n i) g.is_product (node_fits g.at.n g.words i)

  owed_both : (j : ℕ) → edge lw j + edge rt j ≤ g.at.s.uses j
  owed_both j = subst (λ nd. edges nd j ≤ g.at.s.uses j) g.is_product
      (owes limit room g.at.n g.count node g.at.total g.at.rest g.at.s i g.low g.not_done g.used g.at.inv j)

  abbrev First : Taken → Type 0
  First a = Took limit room g.at.n g.count node g.at.total g.at.rest none 0 lw g.at.s a

  first : (a : Taken) → take_use limit room lw g.at.s ≡ fine a → First a
  first a e = post-fine First e
      (take_post limit room g.at.n g.count node g.at.total g.at.rest none 0 lw g.at.s (omega (arith, fit.0, g.low)) g.left_done
      (omega (arith, owed_both (node_in lw), edge_same lw)) g.at.inv)

  pub hand_holds : (a : Taken) → take_use limit room lw g.at.s ≡ fine a
      → (l' p' : List ℕ) (left' : Ledger) (who : Who) → Rep g.count room l' p' left' who a.state
      → left'.spare + (sum g.count (factors_at l') + size a.value) ≡ room
  hand_holds a e l' p' left' who rep = held_in_words g.count room l' p' left' who a.state rep (size a.value) (omega (arith, (first a e).inv.holds))

  pub hands_hold : (a b : Taken) → take_use limit room lw g.at.s ≡ fine a → take_use limit room rt a.state ≡ fine b
      → (l' p' : List ℕ) (left' : Ledger) (who : Who) → Rep g.count room l' p' left' who b.state
      → left'.spare + (sum g.count (factors_at l') + (size a.value + size b.value)) ≡ room
  hands_hold a b e f l' p' left' who rep = held_in_words g.count room l' p' left' who b.state rep (size a.value + size b.value) (omega (arith, second.inv.holds))
    where
      one : First a
      one = first a e

      Second : Taken → Type 0
      Second c = Took limit room g.at.n g.count node g.at.total g.at.rest (λ j. none j + edge lw j) (0 + size a.value) rt a.state c

      second : Second b
      second = post-fine Second f
          (take_post limit room g.at.n g.count node g.at.total g.at.rest (λ j. none j + edge lw j) (0 + size a.value) rt a.state
          (omega (arith, fit.1, g.low)) (ap (λ h. h (node_in rt)) one.done_is ∙ g.right_done)
          (omega (arith, one.uses_are (node_in rt), owed_both (node_in rt), edge_same rt)) one.inv)
