-- What the tags mean: two chains of different tags, and a chain and the free list, have no record in common, and a chain has no record twice.
use mathlib.Core.Path.{◌≡◌, ap, sym, subst, ◌∙◌}
use mathlib.Core.List.{List, [], ◌∷◌}
use mathlib.Core.Logic.{inl, inr}
use Prim.Native.Nat.{ℕ, zero, suc, ◌≤◌}
use native.Mathlib.Omega.{arith}
use lib.ListN.{length}
use Rattle.arena.specs.Sparse.{Factor}
use Rattle.arena.specs.Pool.{spare, held, Who, next_at, Lendable, Chain, Free}
use Rattle.arena.specs.PoolRuns.{Reached, Once}
use Rattle.arena.proofs.Chains.Laws.{no_mix, one_tag, one_qubit, one_place}

pub record HeldFrom (who : Who) (t lo r : ℕ) : Type 0 where
  pub at : ℕ
  pub from : lo ≤ at
  pub is : who r ≡ held t at

pub held_by : (p : List ℕ) (who : Who) (t lo h : ℕ) (fs : List Factor) (r : ℕ) → Chain p who t lo h fs → Reached p h (length fs) r → HeldFrom who t lo r
held_by p who t lo h [] r c m = absurd m
held_by p who t lo h (f ∷ fs) r c (inl e) = record { at = f.qubit; from = c.1; is = ap who e ∙ c.0.mine }
held_by p who t lo h (f ∷ fs) r c (inr m) =
    let q : HeldFrom who t (suc f.qubit) r = held_by p who t (suc f.qubit) (next_at p h) fs r c.2 m in
    record { at = q.at; from = omega (arith, c.1, q.from); is = q.is }

pub apart : (p : List ℕ) (who : Who) (t u lo lo' h k : ℕ) (fs gs : List Factor) (r : ℕ) → (t ≡ u → ⊥)
    → Chain p who t lo h fs → Chain p who u lo' k gs → Reached p h (length fs) r → Reached p k (length gs) r → ⊥
apart p who t u lo lo' h k fs gs r ne c d m n = ne (one_tag (held_by p who t lo h fs r c m).is (held_by p who u lo' k gs r d n).is)

pub once : (p : List ℕ) (who : Who) (t lo h : ℕ) (f : Factor) (fs : List Factor) → Chain p who t lo h (f ∷ fs) → Reached p (next_at p h) (length fs) h → ⊥
once p who t lo h f fs c m =
    let q : HeldFrom who t (suc f.qubit) h = held_by p who t (suc f.qubit) (next_at p h) fs h c.2 m in
    omega (arith, q.from, one_qubit c.0.mine q.is)

pub record SpareUpTo (who : Who) (n r : ℕ) : Type 0 where
  pub at : ℕ
  pub upto : at ≤ n
  pub is : who r ≡ spare at

pub spare-by : (p : List ℕ) (who : Who) (h n r : ℕ) → Free p who h n → Reached p h n r → SpareUpTo who n r
spare-by p who h zero r c m = absurd m
spare-by p who h (suc n) r c (inl e) = record { at = suc n; upto = omega arith; is = ap who e ∙ c.1 }
spare-by p who h (suc n) r c (inr m) =
    let q : SpareUpTo who n r = spare-by p who (next_at p h) n r c.2 m in
    record { at = q.at; upto = omega (arith, q.upto); is = q.is }

pub not_free : (p : List ℕ) (who : Who) (t lo h k n : ℕ) (fs : List Factor) (r : ℕ) → Chain p who t lo h fs → Free p who k n → Reached p h (length fs) r → Reached p k n r → ⊥
not_free p who t lo h k n fs r c d m l = no_mix (spare-by p who k n r d l).is (held_by p who t lo h fs r c m).is

-- ---- no record twice

pub chain_once : (p : List ℕ) (who : Who) (t lo h : ℕ) (fs : List Factor) → Chain p who t lo h fs → Once p h (length fs)
chain_once p who t lo h [] c = tt
chain_once p who t lo h (f ∷ fs) c = (once p who t lo h f fs c, chain_once p who t (suc f.qubit) (next_at p h) fs c.2)

pub free_once : (p : List ℕ) (who : Who) (h n : ℕ) → Free p who h n → Once p h n
free_once p who h zero c = tt
free_once p who h (suc n) c = (
  (λ m.
      let q : SpareUpTo who n h = spare-by p who (next_at p h) n h c.2 m in
      omega (arith, q.upto, one_place c.1 q.is)),
  free_once p who (next_at p h) n c.2,
)

-- ---- only counted records, and never record 0

pub chain_counted : (p : List ℕ) (who : Who) (t lo h : ℕ) (fs : List Factor) (r : ℕ) → Chain p who t lo h fs → Reached p h (length fs) r → Lendable p r
chain_counted p who t lo h [] r c m = absurd m
chain_counted p who t lo h (f ∷ fs) r c (inl e) = subst (Lendable p) (sym e) c.0.counted
chain_counted p who t lo h (f ∷ fs) r c (inr m) = chain_counted p who t (suc f.qubit) (next_at p h) fs r c.2 m

pub free_counted : (p : List ℕ) (who : Who) (h n r : ℕ) → Free p who h n → Reached p h n r → Lendable p r
free_counted p who h zero r c m = absurd m
free_counted p who h (suc n) r c (inl e) = subst (Lendable p) (sym e) c.0
free_counted p who h (suc n) r c (inr m) = free_counted p who (next_at p h) n r c.2 m
