-- kept: claims, which Theorems.antt takes from here as a module
-- At every step of a walk: no record is in two chains, nor in a chain and the free list, and the values in hand are apart from both.
use mathlib.Core.Path.{◌≡◌, refl, sym, subst}
use mathlib.Core.Logic.{◌≢◌}
use mathlib.Core.Bool.{Bool, true, false}
use mathlib.Core.List.{List}
use Prim.Native.Nat.{ℕ, ◌+◌, ◌<◌}
use native.Mathlib.Omega.{arith}
use lib.ListN.{length}
use Rattle.arena.specs.Sparse.{Sparse, size}
use Rattle.arena.specs.Walk.{State}
use Rattle.arena.specs.Pool.{Who, Chain, Lendable}
use Rattle.arena.specs.PoolRuns.{Reached, Once}
use Rattle.arena.specs.Code.Results.{Ledger, Value}
use Rattle.arena.specs.Code.WalkWords.{uses_at, value_at, head_in, count_in, Marks, Rep, ValueIs, Multiplying}
use Rattle.arena.specs.Code.Records.{OfNode, OfValue, Spare}
use Rattle.arena.proofs.Chains.Apart.{apart, not_free, chain_once, free_once, chain_counted}

-- the chain that r is on, and that r is on it
record On (p : List ℕ) (who : Who) (tag head : ℕ) (x : Sparse) (r : ℕ) : Type 0 where
  chain : Chain p who tag 0 head x.factors
  reached : Reached p head (length x.factors) r

module _ (count room : ℕ) (l p : List ℕ) (left : Ledger) (who : Who) (s : State) (rep : Rep count room l p left who s) where
  -- a node with a value and a use left is done, and its value is a chain of as many factors as its word says
  valued : (i : ℕ) → i < count → 0 < uses_at l i → 0 < value_at l i
      → Chain p who (i + 2) 0 (head_in (value_at l i)) (s.value i).factors × (count_in (value_at l i) ≡ size (s.value i))
  valued i low used some = go (s.done i) refl
    where
      go : (b : Bool) → s.done i ≡ b → Chain p who (i + 2) 0 (head_in (value_at l i)) (s.value i).factors × (count_in (value_at l i) ≡ size (s.value i))
      go true e =
          let m : Marks true (s.value i) (value_at l i) = subst (λ b. Marks b (s.value i) (value_at l i)) e (rep.scratch.marks_are i low) in
          (rep.chains i low e (omega (arith, used, rep.scratch.uses_are i low)), m.1)
      go false e =
          let m : Marks false (s.value i) (value_at l i) = subst (λ b. Marks b (s.value i) (value_at l i)) e (rep.scratch.marks_are i low) in
          absurd (omega (arith, some, m))

  standing : (i r : ℕ) → i < count → OfNode l p i r → On p who (i + 2) (head_in (value_at l i)) (s.value i) r
  standing i r low o =
      let v = valued i low o.used o.valued in
      record { chain = v.0; reached = subst (λ k. Reached p (head_in (value_at l i)) k r) v.1 o.reached }

  pub never_twice : (i : ℕ) → i < count → 0 < uses_at l i → 0 < value_at l i → Once p (head_in (value_at l i)) (count_in (value_at l i))
  never_twice i low used some =
      let v = valued i low used some in
      subst (Once p (head_in (value_at l i))) (sym v.1) (chain_once p who (i + 2) 0 (head_in (value_at l i)) (s.value i).factors v.0)

  pub never_shared : (i j r : ℕ) → i < count → j < count → i ≢ j → OfNode l p i r → OfNode l p j r → ⊥
  never_shared i j r li lj ne oi oj =
      let a = standing i r li oi in
      let b = standing j r lj oj in
      apart p who (i + 2) (j + 2) 0 0 (head_in (value_at l i)) (head_in (value_at l j)) (s.value i).factors (s.value j).factors r
      (λ e. ne (omega arith)) a.chain b.chain a.reached b.reached

  pub never_free : (i r : ℕ) → i < count → OfNode l p i r → Spare p left r → ⊥
  never_free i r li oi =
      let a = standing i r li oi in
      not_free p who (i + 2) 0 (head_in (value_at l i)) left.free left.spare (s.value i).factors r a.chain rep.freed a.reached

  pub counted : (i r : ℕ) → i < count → OfNode l p i r → Lendable p r
  counted i r li oi =
      let a = standing i r li oi in
      chain_counted p who (i + 2) 0 (head_in (value_at l i)) (s.value i).factors r a.chain a.reached

  pub spare_once : Once p left.free left.spare
  spare_once = free_once p who left.free left.spare rep.freed

  -- ---- a value in hand has the tag 0 or 1

  module _ (tag : ℕ) (low : tag < 2) (v : Value) (x : Sparse) (is : ValueIs p who tag v x) where
    in_hand : (r : ℕ) → OfValue p v r → Reached p v.head (length x.factors) r
    in_hand r o = subst (λ k. Reached p v.head k r) is.count_is o

    pub hand_not_standing : (i r : ℕ) → i < count → OfValue p v r → OfNode l p i r → ⊥
    hand_not_standing i r li o oi =
        let a = standing i r li oi in
        apart p who tag (i + 2) 0 0 v.head (head_in (value_at l i)) x.factors (s.value i).factors r
        (λ e. absurd (omega arith)) is.chain a.chain (in_hand r o) a.reached

    pub hand_not_free : (r : ℕ) → OfValue p v r → Spare p left r → ⊥
    hand_not_free r o = not_free p who tag 0 v.head left.free left.spare x.factors r is.chain rep.freed (in_hand r o)

    pub hand_once : Once p v.head v.count
    hand_once = subst (Once p v.head) (sym is.count_is) (chain_once p who tag 0 v.head x.factors is.chain)

-- the two values in hand
pub hands-apart : (l p : List ℕ) (limit i : ℕ) (a b : Value) (left : Ledger) → Multiplying l p limit i a b left → (r : ℕ) → OfValue p a r → OfValue p b r → ⊥
hands-apart l p limit i a b left g r oa ob =
    apart p g.who 0 1 0 0 a.head b.head g.x.factors g.y.factors r
    (λ e. absurd (omega arith)) g.first.chain g.second.chain
    (in_hand g.count g.room l p left g.who g.s g.rep 0 (omega arith) a g.x g.first r oa)
    (in_hand g.count g.room l p left g.who g.s g.rep 1 (omega arith) b g.y g.second r ob)
