-- The pool at its start, where the free list is threaded, and at its end.
use mathlib.Core.Path.{◌≡◌, refl, sym, ap, subst, ◌∙◌}
use mathlib.Core.List.{List}
use Prim.Native.Nat.{ℕ, zero, suc, ◌+◌, ◌-◌, ◌*◌, ◌≤◌, ◌<◌}
use native.Mathlib.Omega.{arith}
use lib.ListN.{length, set, length-set}
use lib.Seq.{get_or-set_same}
use Rattle.arena.specs.Pool.{spare, Lendable, Free}
use Rattle.arena.specs.PoolSteps.{AllFree}
use Rattle.arena.proofs.Chains.Laws.{Step, put, one_place, counted_step, free_step}
use Rattle.arena.specs.Limits.{cap_of}

-- the records below k are threaded: record r is the r-th of the free list from its end
pub record Threading (p₀ : List ℕ) (cap : ℕ) (p : List ℕ) (k : ℕ) : Type 0 where
  pub cap_is : cap ≡ cap_of (length p₀)
  pub from : 1 ≤ k
  pub upto : k ≤ cap
  pub long : length p ≡ length p₀
  pub freed : Free p spare (k - 1) (k - 1)

thread_one : (p : List ℕ) (m : ℕ) → Lendable p (suc m) → Free p spare m m → Free (set p (3 * suc m) m) spare (suc m) (suc m)
thread_one p m x f =
    let p' : List ℕ = set p (3 * suc m) m in
    let s : Step p spare p' spare (suc m) = put p spare (suc m) (3 * suc m) m (omega arith) (omega arith) in (
      counted_step s x,
      refl,
      subst (λ (y : ℕ). Free p' spare y m) (sym (get_or-set_same p (3 * suc m) m 0 (omega (arith, x.room))))
          (free_step s m m (λ k l _ o. omega (arith, one_place (refl {a = spare (suc m)}) o)) f),
    )

module _ {p₀ : List ℕ} {cap : ℕ} where
  pub thread_begin : cap ≡ cap_of (length p₀) → (cap ≡ 0 → ⊥) → Threading p₀ cap p₀ 1
  thread_begin e ne = record { cap_is = e; from = omega arith; upto = omega arith; long = refl; freed = refl }

  turn_at : (p : List ℕ) (k : ℕ) → cap ≡ cap_of (length p₀) → k < cap → length p ≡ length p₀ → 1 ≤ k → Free p spare (k - 1) (k - 1)
      → Threading p₀ cap (set p (3 * k) (k - 1)) (k + 1)
  turn_at p zero e l lp f1 f = absurd (let z : ◌≡◌ {A = ℕ} 0 1 = omega arith in omega arith)
  turn_at p (suc m) e l lp f1 f =
      let d : suc m - 1 ≡ m = omega arith in
      let u : suc m + 1 - 1 ≡ suc m = omega arith in
      record {
        cap_is = e;
        from = omega arith;
        upto = omega arith;
        long = length-set p (3 * suc m) (suc m - 1) ∙ lp;
        freed = rw (d, u) (thread_one p m (record { pos = omega arith; low = omega arith; room = omega arith }) (rw d at f));
      }

  pub thread_turn : {p p' : List ℕ} {k : ℕ} → Threading p₀ cap p k → k < cap → p' ≡ set p (3 * k) (k - 1) → Threading p₀ cap p' (k + 1)
  thread_turn {p} {k = k} s l e = rw e (turn_at p k s.cap_is l s.long s.from s.freed)

  pub thread_end : {p : List ℕ} {k : ℕ} → Threading p₀ cap p k → cap ≤ k → AllFree p₀ p (cap - 1)
  thread_end {p} {k} s l =
      let u : k - 1 ≡ cap - 1 = omega (arith, s.upto) in
      let v : cap - 1 ≡ cap_of (length p₀) - 1 = ap (λ (n : ℕ). n - 1) s.cap_is in
      record { freed = subst (λ (n : ℕ). Free p spare (cap - 1) n) v (subst (λ (n : ℕ). Free p spare n n) u s.freed); long = s.long }

pub none_free : (p : List ℕ) → 0 ≡ cap_of (length p) → AllFree p p 0
none_free p e =
    let v : 0 ≡ cap_of (length p) - 1 = omega arith in
    record { freed = subst (λ (n : ℕ). Free p spare 0 n) v refl; long = refl }
