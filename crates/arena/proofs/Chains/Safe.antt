-- kept: claims, which Theorems.antt takes from here as a module
-- Whatever operations a pool goes through: its chains and its free list stand, no two of them have a record in common, and the records lent are the factors held.
use mathlib.Core.Path.{◌≡◌, refl, sym, ap, subst, ◌∙◌}
use mathlib.Core.Logic.{inl, inr}
use mathlib.Core.List.{List, [], ◌∷◌}
use Prim.Native.Nat.{ℕ, suc, ◌+◌, ◌-◌, ◌≤◌}
use native.Mathlib.Omega.{arith}
use lib.ListN.{length}
use mathlib.Core.Bool.{Bool, true, false, cond}
use lib.Dec.{ltb}
use Rattle.pauli.specs.Letters.{◌·◌}
use Rattle.arena.specs.Types.{Pauli, I, X, Y, Z}
use Rattle.arena.specs.Sparse.{Factor, Sparse, with_factor, with_letter, together, merge_one, merge}
use Rattle.arena.specs.Pool.{Who, spare, Lendable, Chain, Free}
use Rattle.arena.specs.PoolSteps.{Lender, Source, Holding, Operands}
use Rattle.arena.specs.PoolRuns.{Held, World, factors_held, Fresh, Without, Singles, Copies, GivesBack, Multiplies, Does, singles, copies, gives_back, multiplies, Begins, Run, lent_by, back_by, lent_in, back_in, Once, InChain, InFree}
use Rattle.arena.proofs.Chains.Apart
use Rattle.arena.proofs.Chains.Apart.{apart, not_free, chain_once, free_once, chain_counted}
use Rattle.arena.specs.Limits.{cap_of}

-- every chain stands
abbrev pub Each : List ℕ → Who → List Held → Type 0
Each p who [] = Unit {0}
Each p who (c ∷ cs) = Chain p who c.tag 0 c.head c.factors × Each p who cs

-- no tag is there twice
abbrev pub Distinct : List Held → Type 0
Distinct [] = Unit {0}
Distinct (c ∷ cs) = Fresh c.tag cs × Distinct cs

pub record Sound (words : ℕ) (w : World) : Type 0 where
  pub who : Who
  pub freed : Free w.pool who w.free w.spares
  pub each : Each w.pool who w.chains
  pub distinct : Distinct w.chains
  pub balance : w.spares + factors_held w.chains ≡ cap_of words - 1

-- ---- a list of chains without one of them

without_each : (p : List ℕ) (who : Who) (c : Held) (cs rest : List Held) → Without c cs rest → Each p who cs
    → Chain p who c.tag 0 c.head c.factors × Each p who rest
without_each p who c [] rest o e = absurd o
without_each p who c (d ∷ ds) rest (inl z) e =
    (subst (λ (x : Held). Chain p who x.tag 0 x.head x.factors) (sym z.0) e.0, subst (Each p who) (sym z.1) e.1)
without_each p who c (d ∷ ds) rest (inr z) e =
    let i = without_each p who c ds z.0 z.1 e.1 in
    (i.0, subst (Each p who) (sym z.2) (e.0, i.1))

without_fresh : (t : ℕ) (c : Held) (cs rest : List Held) → Without c cs rest → Fresh t cs → (c.tag ≡ t → ⊥) × Fresh t rest
without_fresh t c [] rest o e = absurd o
without_fresh t c (d ∷ ds) rest (inl z) e =
    (subst (λ (x : Held). x.tag ≡ t → ⊥) (sym z.0) e.0, subst (Fresh t) (sym z.1) e.1)
without_fresh t c (d ∷ ds) rest (inr z) e =
    let i = without_fresh t c ds z.0 z.1 e.1 in
    (i.0, subst (Fresh t) (sym z.2) (e.0, i.1))

without_distinct : (c : Held) (cs rest : List Held) → Without c cs rest → Distinct cs → Fresh c.tag rest × Distinct rest
without_distinct c [] rest o e = absurd o
without_distinct c (d ∷ ds) rest (inl z) e =
    (subst (λ (x : Held). Fresh x.tag rest) (sym z.0) (subst (Fresh d.tag) (sym z.1) e.0), subst Distinct (sym z.1) e.1)
without_distinct c (d ∷ ds) rest (inr z) e =
    let i = without_distinct c ds z.0 z.1 e.1 in
    let f = without_fresh d.tag c ds z.0 z.1 e.0 in
    (subst (Fresh c.tag) (sym z.2) ((λ q. f.0 (sym q)), i.0), subst Distinct (sym z.2) (f.1, i.1))

without_sum : (c : Held) (cs rest : List Held) → Without c cs rest → factors_held cs ≡ length c.factors + factors_held rest
without_sum c [] rest o = absurd o
without_sum c (d ∷ ds) rest (inl z) = rw (z.0, z.1)
without_sum c (d ∷ ds) rest (inr z) = rw z.2 (omega (arith, without_sum c ds z.0 z.1))

-- the chains of tags other than three stand as they did
each_kept : (p : List ℕ) (who : Who) (p' : List ℕ) (who' : Who) (ta tb tr : ℕ)
    → ((u lo h : ℕ) (fs : List Factor) → (u ≡ ta → ⊥) → (u ≡ tb → ⊥) → (u ≡ tr → ⊥) → Chain p who u lo h fs → Chain p' who' u lo h fs)
    → (cs : List Held) → Fresh ta cs → Fresh tb cs → Fresh tr cs → Each p who cs → Each p' who' cs
each_kept p who p' who' ta tb tr k [] a b r e = tt
each_kept p who p' who' ta tb tr k (c ∷ cs) a b r e =
    (k c.tag 0 c.head c.factors a.0 b.0 r.0 e.0, each_kept p who p' who' ta tb tr k cs a.1 b.1 r.1 e.1)

-- a product has no more factors than its operands together
letter-length : (q : ℕ) (a : Pauli) (r : Sparse) → length (with_letter q a r).factors ≤ suc (length r.factors)
letter-length q I r = omega arith
letter-length q X r = omega arith
letter-length q Y r = omega arith
letter-length q Z r = omega arith

one-length : (f : Factor) (fs : List Factor) (rest : List Factor → Sparse) → ((gs : List Factor) → length (rest gs).factors ≤ length fs + length gs)
    → (gs : List Factor) → length (merge_one f fs rest gs).factors ≤ suc (length fs) + length gs
one-length f fs rest k [] = omega arith
one-length f fs rest k (g ∷ gs) = go (one-length f fs rest k gs) (ltb f.qubit g.qubit) (ltb g.qubit f.qubit)
  where
    go : length (merge_one f fs rest gs).factors ≤ suc (length fs) + length gs → (b c : Bool)
        → length (cond b (with_factor f (rest (g ∷ gs))) (cond c (with_factor g (merge_one f fs rest gs)) (together f g (rest gs)))).factors ≤ suc (length fs) + length (g ∷ gs)
    go i true c = omega (arith, k (g ∷ gs))
    go i false true = omega (arith, i)
    go i false false = omega (arith, letter-length f.qubit (f.pauli · g.pauli) (rest gs), k gs)

merge-length : (fs gs : List Factor) → length (merge fs gs).factors ≤ length fs + length gs
merge-length [] gs = omega arith
merge-length (f ∷ fs) gs = one-length f fs (λ hs. merge fs hs) (λ hs. merge-length fs hs) gs

-- ---- each operation

module _ {words : ℕ} {w w' : World} (s : Sound words w) where
  abbrev lender : Singles w w' → Lender w.pool w.free
  lender d =
      record
      { who = s.who; tr = d.tag; n = w'.spares; freed = subst (λ (n : ℕ). Free w.pool s.who w.free n) d.spares_are s.freed }

  of_single : Singles w w' → Sound words w'
  of_single d =
      let m = d.met (lender d) in
      let t : ℕ = d.tag in
      record {
        who = m.who';
        freed = m.freed;
        each = subst (Each w'.pool m.who') (sym d.chains_are)
            (m.chain, each_kept w.pool s.who w'.pool m.who' t t t (λ u lo h fs x _ _ c. m.kept u lo h fs x c) w.chains d.fresh d.fresh d.fresh s.each);
        distinct = subst Distinct (sym d.chains_are) (d.fresh, s.distinct);
        balance = omega (arith, ap factors_held d.chains_are, d.spares_are, s.balance);
      }

  abbrev source : (d : Copies w w') → Source w.pool w.free d.from.head (length d.from.factors)
  source d =
      record {
        who = s.who;
        ta = d.from.tag;
        tr = d.tag;
        a_r = (without_fresh d.tag d.from w.chains d.others d.stands d.fresh).0;
        fs = d.from.factors;
        n = w'.spares;
        chain = (without_each w.pool s.who d.from w.chains d.others d.stands s.each).0;
        freed = subst (λ (n : ℕ). Free w.pool s.who w.free n) d.spares_are s.freed;
        count_is = refl;
      }

  of_copy : Copies w w' → Sound words w'
  of_copy d =
      let m = d.met (source d) in
      let t : ℕ = d.tag in
      record {
        who = m.who';
        freed = m.freed;
        each = subst (Each w'.pool m.who') (sym d.chains_are)
            (m.chain, each_kept w.pool s.who w'.pool m.who' t t t (λ u lo h fs x _ _ c. m.kept u lo h fs x c) w.chains d.fresh d.fresh d.fresh s.each);
        distinct = subst Distinct (sym d.chains_are) (d.fresh, s.distinct);
        balance = omega (arith, ap factors_held d.chains_are, d.spares_are, s.balance);
      }

  abbrev holding : (d : GivesBack w w') → Holding w.pool w.free d.from.head (length d.from.factors)
  holding d =
      record {
        who = s.who;
        ta = d.from.tag;
        fs = d.from.factors;
        n = w.spares;
        chain = (without_each w.pool s.who d.from w.chains w'.chains d.stands s.each).0;
        freed = s.freed;
        count_is = refl;
      }

  of_give : GivesBack w w' → Sound words w'
  of_give d =
      let m = d.met (holding d) in
      let t : ℕ = d.from.tag in
      let di = without_distinct d.from w.chains w'.chains d.stands s.distinct in
      let e = (without_each w.pool s.who d.from w.chains w'.chains d.stands s.each).1 in
      record {
        who = m.who';
        freed = subst (λ (n : ℕ). Free w'.pool m.who' w'.free n) (sym d.spares_are) m.freed;
        each = each_kept w.pool s.who w'.pool m.who' t t t (λ u lo h fs x _ _ c. m.kept u lo h fs x c) w'.chains di.0 di.0 di.0 e;
        distinct = di.1;
        balance = omega (arith, without_sum d.from w.chains w'.chains d.stands, d.spares_are, s.balance);
      }

  module _ (d : Multiplies w w') where
    a_each : Chain w.pool s.who d.left.tag 0 d.left.head d.left.factors × Each w.pool s.who d.some
    a_each = without_each w.pool s.who d.left w.chains d.some d.left_stands s.each

    b_each : Chain w.pool s.who d.right.tag 0 d.right.head d.right.factors × Each w.pool s.who d.others
    b_each = without_each w.pool s.who d.right d.some d.others d.right_stands a_each.1

    a_distinct : Fresh d.left.tag d.some × Distinct d.some
    a_distinct = without_distinct d.left w.chains d.some d.left_stands s.distinct

    b_distinct : Fresh d.right.tag d.others × Distinct d.others
    b_distinct = without_distinct d.right d.some d.others d.right_stands a_distinct.1

    -- the right operand and the others have not the left one's tag
    a_fresh : (d.right.tag ≡ d.left.tag → ⊥) × Fresh d.left.tag d.others
    a_fresh = without_fresh d.left.tag d.right d.some d.others d.right_stands a_distinct.0

    some_fresh : (d.left.tag ≡ d.tag → ⊥) × Fresh d.tag d.some
    some_fresh = without_fresh d.tag d.left w.chains d.some d.left_stands d.fresh

    others_fresh : (d.right.tag ≡ d.tag → ⊥) × Fresh d.tag d.others
    others_fresh = without_fresh d.tag d.right d.some d.others d.right_stands some_fresh.1

    abbrev operands : Operands w.pool w.free d.left.head (length d.left.factors) d.right.head (length d.right.factors)
    operands =
        record {
          who = s.who;
          ta = d.left.tag;
          tb = d.right.tag;
          tr = d.tag;
          a_b = λ e. a_fresh.0 (sym e);
          a_r = some_fresh.0;
          b_r = others_fresh.0;
          fa = d.left.factors;
          fb = d.right.factors;
          n = w.spares;
          chain_a = a_each.0;
          chain_b = b_each.0;
          freed = s.freed;
          count_a = refl;
          count_b = refl;
          few = d.few;
        }

    of_multiply : Sound words w'
    of_multiply =
        let m = d.met operands in
        let n-is : m.n' ≡ w'.spares = omega (arith, m.returned, d.spares_are) in
        record {
          who = m.who';
          freed = subst (λ (n : ℕ). Free w'.pool m.who' w'.free n) n-is m.freed;
          each = subst (Each w'.pool m.who') (sym d.chains_are)
              (m.chain, each_kept w.pool s.who w'.pool m.who' d.left.tag d.right.tag d.tag (λ u lo h fs x y z c. m.kept u lo h fs x y z c) d.others a_fresh.1 b_distinct.0 others_fresh.1 b_each.1);
          distinct = subst Distinct (sym d.chains_are) (others_fresh.1, b_distinct.1);
          balance = omega (
            arith,
            ap factors_held d.chains_are,
            m.count_is,
            without_sum d.left w.chains d.some d.left_stands,
            without_sum d.right d.some d.others d.right_stands,
            d.spares_are,
            s.balance,
          );
        }

  pub sound_step : Does w w' → Sound words w'
  sound_step (singles d) = of_single d
  sound_step (copies d) = of_copy d
  sound_step (gives_back d) = of_give d
  sound_step (multiplies d) = of_multiply d

-- ---- every run

sound_start : (words : ℕ) (w : World) → Begins words w → Sound words w
sound_start words w b =
    let e : cap_of (length b.before) - 1 ≡ w.spares = ap (λ (n : ℕ). cap_of n - 1) b.long ∙ sym b.spares_are in
    record {
      who = spare;
      freed = subst (λ (n : ℕ). Free w.pool spare w.free n) e b.met.freed;
      each = subst (Each w.pool spare) (sym b.chains_are) tt;
      distinct = subst Distinct (sym b.chains_are) tt;
      balance = omega (arith, ap factors_held b.chains_are, b.spares_are);
    }

pub run_sound : (words : ℕ) (vs : List World) (w : World) → Run words vs w → Sound words w
run_sound words [] w b = sound_start words w b
run_sound words (v ∷ vs) w r = sound_step (run_sound words vs v r.0) r.1

-- the free records and the factors held are all the counted records but record 0
pub records_balance : (words : ℕ) (vs : List World) (w : World) → Run words vs w → w.spares + factors_held w.chains ≡ cap_of words - 1
records_balance words vs w r = (run_sound words vs w r).balance

-- the records lent, less the records given back, are the factors held
step_count : {words : ℕ} {w w' : World} (s : Sound words w) (d : Does w w') → factors_held w'.chains + back_by d ≡ factors_held w.chains + lent_by d
step_count s (singles d) = omega (arith, ap factors_held d.chains_are)
step_count s (copies d) = omega (arith, ap factors_held d.chains_are)
step_count {w = w} {w'} s (gives_back d) = omega (arith, without_sum d.from w.chains w'.chains d.stands)
step_count {w = w} s (multiplies d) =
    omega (
      arith,
      ap factors_held d.chains_are,
      (d.met (operands s d)).count_is,
      merge-length d.left.factors d.right.factors,
      without_sum d.left w.chains d.some d.left_stands,
      without_sum d.right d.some d.others d.right_stands,
    )

pub records_held : (words : ℕ) (vs : List World) (w : World) (r : Run words vs w) → factors_held w.chains + back_in words vs w r ≡ lent_in words vs w r
records_held words [] w r = omega (arith, ap factors_held r.chains_are)
records_held words (v ∷ vs) w r = omega (arith, records_held words vs v r.0, step_count (run_sound words vs v r.0) r.1)

-- no record is in two chains
pub never_shared : (words : ℕ) (vs : List World) (w : World) → Run words vs w → (c d : Held) (some others : List Held) (r : ℕ)
    → Without c w.chains some → Without d some others → InChain w c r → InChain w d r → ⊥
never_shared words vs w run c d some others r a b =
    let s = run_sound words vs w run in
    let x = without_each w.pool s.who c w.chains some a s.each in
    let y = without_each w.pool s.who d some others b x.1 in
    let f = (without_fresh c.tag d some others b (without_distinct c w.chains some a s.distinct).0).0 in
    apart w.pool s.who c.tag d.tag 0 0 c.head d.head c.factors d.factors r (λ e. f (sym e)) x.0 y.0

-- no record of a chain is free
pub never_free : (words : ℕ) (vs : List World) (w : World) → Run words vs w → (c : Held) (others : List Held) (r : ℕ)
    → Without c w.chains others → InChain w c r → InFree w r → ⊥
never_free words vs w run c others r a =
    let s = run_sound words vs w run in
    not_free w.pool s.who c.tag 0 c.head w.free w.spares c.factors r (without_each w.pool s.who c w.chains others a s.each).0 s.freed

-- no record is twice in a chain, nor in the free list
pub never_twice : (words : ℕ) (vs : List World) (w : World) → Run words vs w → (c : Held) (others : List Held)
    → Without c w.chains others → Once w.pool c.head (length c.factors)
never_twice words vs w run c others a =
    let s = run_sound words vs w run in
    chain_once w.pool s.who c.tag 0 c.head c.factors (without_each w.pool s.who c w.chains others a s.each).0

pub free_never_twice : (words : ℕ) (vs : List World) (w : World) → Run words vs w → Once w.pool w.free w.spares
free_never_twice words vs w run =
    let s = run_sound words vs w run in
    free_once w.pool s.who w.free w.spares s.freed

-- only counted records are held or free, and never record 0
pub held_counted : (words : ℕ) (vs : List World) (w : World) → Run words vs w → (c : Held) (others : List Held) (r : ℕ)
    → Without c w.chains others → InChain w c r → Lendable w.pool r
held_counted words vs w run c others r a =
    let s = run_sound words vs w run in
    chain_counted w.pool s.who c.tag 0 c.head c.factors r (without_each w.pool s.who c w.chains others a s.each).0

pub free_counted : (words : ℕ) (vs : List World) (w : World) → Run words vs w → (r : ℕ) → InFree w r → Lendable w.pool r
free_counted words vs w run r =
    let s = run_sound words vs w run in
    Apart.free_counted w.pool s.who w.free w.spares r s.freed
