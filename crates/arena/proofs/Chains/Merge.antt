-- The merge of two chains: what holds at each turn of `multiply`'s loop, and that each turn keeps it.
use mathlib.Core.Path.{◌≡◌, refl, sym, ap, subst, ◌∙◌}
use mathlib.Core.List.{List, [], ◌∷◌}
use mathlib.Core.Logic.{◌⊎◌, inl, inr, ⊎_elim}
use Prim.Native.Nat.{ℕ, suc, ◌+◌, ◌-◌, ◌*◌, ◌%◌, ◌≤◌, ◌<◌}
use native.Mathlib.Omega.{arith}
use lib.ListN.{length, set}
use lib.Seq.{get_or-set_same, get_or-set_other}
use native.Mathlib.Nat.{add-zero}
use mathlib.Core.Bool.{Bool, true, false}
use lib.Dec.{eqb, ltb}
use borrow.Author.Tests.{eq-eqb, ne_eqb, lt-ltb, le-ltb, eqb-true, eqb-false, ltb-true, ltb-false}
use Rattle.pauli.proofs.Finite.{⊕-one, ⊕-assoc}
use Rattle.pauli.proofs.Numbers.{phase_number-small}
use Rattle.pauli.specs.declared.pauli.NumberProduct.{NumberProduct}
use Rattle.pauli.specs.Letters.{number_product, power, phase_of, phase_number, pauli_of, pauli_number, ◌⊕◌, ◌·◌}
use Rattle.arena.specs.Types.{Phase, One}
use Rattle.arena.specs.Sparse.{Factor, Sparse, factor, merge, with_factor, turned, together}
use Rattle.arena.proofs.Chains.Letters.{of_number, number-power, power-one, power-times, together-none, together-some, third_some}
use Rattle.arena.specs.Pool.{loose, spare, held, Who, next_at, qubit_at, letter_at, Lendable, Holds, Chain, Free}
use Rattle.arena.specs.PoolSteps.{Operands, Merged}
use Rattle.arena.proofs.Chains.Laws.{Step, put, upd, upd_same, upd_other, no_mix, one_tag, counted_step, chain_step, free_step, Made, onto}
use Rattle.arena.proofs.Chains.Parts.{Job, Parts, swap, of_loose, append, push, detach, close, chain_lower, chain_own, free_own, retag, retag-same, retag-other, retag-spare, made-put, made_own, last-held, last_room, LastHeld, free_low, chain_low, last_low, last_fits}
use Rattle.arena.specs.Code.Turns.{attached, head_of, Meeting, kept_turn, third, turn_by, met_turn, met_pool, merge_turn, merge_pool, Turn}

-- ---- the merge, one factor at a time

pub merge-lt : (f h : Factor) (fs hs : List Factor) → f.qubit < h.qubit → merge (f ∷ fs) (h ∷ hs) ≡ with_factor f (merge fs (h ∷ hs))
merge-lt f h fs hs l = rw (lt-ltb f.qubit h.qubit l)

pub merge-gt : (f h : Factor) (fs hs : List Factor) → h.qubit < f.qubit → merge (f ∷ fs) (h ∷ hs) ≡ with_factor h (merge (f ∷ fs) hs)
merge-gt f h fs hs l = rw (le-ltb f.qubit h.qubit (omega arith), lt-ltb h.qubit f.qubit l)

pub merge-eq : (f h : Factor) (fs hs : List Factor) → f.qubit ≡ h.qubit → merge (f ∷ fs) (h ∷ hs) ≡ together f h (merge fs hs)
merge-eq f h fs hs e = rw (le-ltb f.qubit h.qubit (omega arith), le-ltb h.qubit f.qubit (omega arith))

pub merge_none : (fs : List Factor) → merge fs [] ≡ record { phase = One; factors = fs }
merge_none [] = refl
merge_none (f ∷ fs) = refl

pub length-onto : (rs fs : List Factor) → length (onto rs fs) ≡ length rs + length fs
length-onto [] fs = omega arith
length-onto (r ∷ rs) fs = omega (arith, length-onto rs (r ∷ fs))

module _ (p : List ℕ) (a b : ℕ) (f h : Factor) (f-is : letter_at p a ≡ pauli_number f.pauli) (h-is : letter_at p b ≡ pauli_number h.pauli) where
  third-is : third p a b ≡ pauli_number (f.pauli · h.pauli)
  third-is = rw (f-is, h-is, of_number f.pauli, of_number h.pauli)

  turn_is : turn_by p a b ≡ phase_number (phase_of f.pauli h.pauli)
  turn_is = rw (f-is, h-is, of_number f.pauli, of_number h.pauli)

-- ---- the invariant

module _ {p₀ : List ℕ} {free₀ a₀ na b₀ nb : ℕ} where
  abbrev pub job : Operands p₀ free₀ a₀ na b₀ nb → Job
  job g =
      record
      { out = λ t. (t ≡ g.ta) ⊎ ((t ≡ g.tb) ⊎ (t ≡ g.tr)); p₀ = p₀; who₀ = g.who; ta = g.ta; tb = g.tb; tr = g.tr; a_b = g.a_b; a_r = g.a_r; b_r = g.b_r }

-- with fa and fb still to come of the two chains. They are parameters and not fields, so that a lemma can go by cases on them
pub record Before {p₀ : List ℕ} {free₀ a₀ na b₀ nb : ℕ} (g : Operands p₀ free₀ a₀ na b₀ nb) (p : List ℕ) (free a b tail made left phase : ℕ) (fa fb : List Factor) : Type 0 where
  pub who : Who
  pub lo : ℕ
  pub rs : List Factor
  pub n : ℕ
  pub parts : Parts (job g) p who lo a fa lo b fb lo tail rs free n
  pub factors_is : onto rs (merge fa fb).factors ≡ (merge g.fa g.fb).factors
  pub turns_is : power phase ⊕ (merge fa fb).phase ≡ (merge g.fa g.fb).phase
  pub small : phase < 4
  pub made_is : made ≡ length rs
  pub left_is : left ≡ length fa + length fb
  pub total : n + (made + left) ≡ g.n + (na + nb)
  pub fewer : made + left ≤ na + nb

pub record Merging {p₀ : List ℕ} {free₀ a₀ na b₀ nb : ℕ} (g : Operands p₀ free₀ a₀ na b₀ nb) (p : List ℕ) (free a b tail made left phase : ℕ) : Type 0 where
  pub fa : List Factor
  pub fb : List Factor
  pub at : Before g p free a b tail made left phase fa fb

module _ {p₀ : List ℕ} {free₀ a₀ na b₀ nb : ℕ} (g : Operands p₀ free₀ a₀ na b₀ nb) where
  pub begin : Merging g p₀ free₀ a₀ b₀ 0 0 (na + nb) 0
  begin =
      record {
        fa = g.fa;
        fb = g.fb;
        at = record {
          who = g.who;
          lo = 0;
          rs = [];
          n = g.n;
          parts = record { chain_a = g.chain_a; chain_b = g.chain_b; made = refl; freed = g.freed; kept = λ t lo h fs no' c. c; long = refl };
          factors_is = refl;
          turns_is = ap (λ (z : Phase). z ⊕ (merge g.fa g.fb).phase) power-one;
          small = omega arith;
          made_is = refl;
          left_is = omega (arith, g.count_a, g.count_b);
          total = omega arith;
          fewer = omega arith;
        };
      }

  module _ {p : List ℕ} {free a b tail made left phase : ℕ} where
    -- the first chain's first factor comes first
    take_first : (fa fb : List Factor) → Before g p free a b tail made left phase fa fb
        → (a ≡ 0 → ⊥) → (b ≡ 0 → ⊥) → qubit_at p a < qubit_at p b
        → Merging g (set p (3 * tail) a) free (next_at p a) b a (made + 1) (left - 1) phase
    take_first [] fb s na' nb' l = absurd (na' s.parts.chain_a)
    take_first (f ∷ fa) [] s na' nb' l = absurd (nb' s.parts.chain_b)
    take_first (f ∷ fa) (h ∷ fb) s na' nb' l =
        let w = s.parts in
        let who : Who = s.who in
        let rs : List Factor = s.rs in
        let x : Holds p who g.ta f a = w.chain_a.0 in
        let l' : f.qubit < h.qubit = omega (arith, x.qubit_is, w.chain_b.0.qubit_is) in
        let e : merge (f ∷ fa) (h ∷ fb) ≡ with_factor f (merge fa (h ∷ fb)) = merge-lt f h fa fb l' in
        let w' = append (inr (inr refl)) a f x.counted (upd_same who a loose) x.qubit_is x.letter_is x.some_letter w.chain_a.1 (detach (inl refl) f w) in
        record {
          fa = fa;
          fb = h ∷ fb;
          at = record {
            who = _;
            lo = suc f.qubit;
            rs = f ∷ rs;
            n = s.n;
            parts = record
                { chain_a = w'.chain_a; chain_b = (w'.chain_b.0, l', w'.chain_b.2); made = w'.made; freed = w'.freed; kept = w'.kept; long = w'.long };
            factors_is = ap (λ (r : Sparse). onto rs r.factors) (sym e) ∙ s.factors_is;
            turns_is = ap (λ (r : Sparse). power phase ⊕ r.phase) (sym e) ∙ s.turns_is;
            small = s.small;
            made_is = omega arith;
            left_is = omega arith;
            total = omega arith;
            fewer = omega arith;
          };
        }

    take_second : (fa fb : List Factor) → Before g p free a b tail made left phase fa fb
        → (a ≡ 0 → ⊥) → (b ≡ 0 → ⊥) → qubit_at p b < qubit_at p a
        → Merging g (set p (3 * tail) b) free a (next_at p b) b (made + 1) (left - 1) phase
    take_second [] fb s na' nb' l = absurd (na' s.parts.chain_a)
    take_second (f ∷ fa) [] s na' nb' l = absurd (nb' s.parts.chain_b)
    take_second (f ∷ fa) (h ∷ fb) s na' nb' l =
        let w = s.parts in
        let who : Who = s.who in
        let rs : List Factor = s.rs in
        let x : Holds p who g.tb h b = w.chain_b.0 in
        let l' : h.qubit < f.qubit = omega (arith, x.qubit_is, w.chain_a.0.qubit_is) in
        let e : merge (f ∷ fa) (h ∷ fb) ≡ with_factor h (merge (f ∷ fa) fb) = merge-gt f h fa fb l' in
        let w' = append (inr (inr refl)) b h x.counted (upd_same who b loose) x.qubit_is x.letter_is x.some_letter w.chain_b.1 (swap (detach (inr (inl refl)) h (swap w))) in
        record {
          fa = f ∷ fa;
          fb = fb;
          at = record {
            who = _;
            lo = suc h.qubit;
            rs = h ∷ rs;
            n = s.n;
            parts = record
                { chain_a = (w'.chain_a.0, l', w'.chain_a.2); chain_b = w'.chain_b; made = w'.made; freed = w'.freed; kept = w'.kept; long = w'.long };
            factors_is = ap (λ (r : Sparse). onto rs r.factors) (sym e) ∙ s.factors_is;
            turns_is = ap (λ (r : Sparse). power phase ⊕ r.phase) (sym e) ∙ s.turns_is;
            small = s.small;
            made_is = omega arith;
            left_is = omega arith;
            total = omega arith;
            fewer = omega arith;
          };
        }

    -- equal qubits, and the letters cancel: both records are free again
    cancel_both : (fa fb : List Factor) → Before g p free a b tail made left phase fa fb
        → (a ≡ 0 → ⊥) → (b ≡ 0 → ⊥) → qubit_at p a ≡ qubit_at p b → third p a b ≡ 0
        → Merging g (set (set p (3 * a) free) (3 * b) a) b (next_at p a) (next_at p b) tail made (left - 2) phase
    cancel_both [] fb s na' nb' q le = absurd (na' s.parts.chain_a)
    cancel_both (f ∷ fa) [] s na' nb' q le = absurd (nb' s.parts.chain_b)
    cancel_both (f ∷ fa) (h ∷ fb) s na' nb' q le =
        let w = s.parts in
        let who : Who = s.who in
        let rs : List Factor = s.rs in
        let x : Holds p who g.ta f a = w.chain_a.0 in
        let y : Holds p who g.tb h b = w.chain_b.0 in
        let a-b : a ≡ b → ⊥ = λ eq. g.a_b (one_tag x.mine (ap who eq ∙ y.mine)) in
        let e : merge (f ∷ fa) (h ∷ fb) ≡ merge fa fb =
        merge-eq f h fa fb (sym x.qubit_is ∙ q ∙ y.qubit_is) ∙ together-none f h _ (sym (third-is p a b f h x.letter_is y.letter_is) ∙ le) in
        let who₂ : Who = upd (upd who a loose) b loose in
        let w₂ = swap (detach (inr (inl refl)) h (swap (detach (inl refl) f w))) in
        let la : who₂ a ≡ loose = upd_other (upd who a loose) b loose a a-b ∙ upd_same who a loose in
        let w₃ = push a x.counted la w₂ in
        let lb : upd who₂ a (spare (suc s.n)) b ≡ loose =
        upd_other who₂ a _ b (λ eq. a-b (sym eq)) ∙ upd_same (upd who a loose) b loose in
        let w₄ = push b (counted_step (put p who a (3 * a) free (omega arith) (omega arith)) y.counted) lb w₃ in
        record {
          fa = fa;
          fb = fb;
          at = record {
            who = _;
            lo = s.lo;
            rs = rs;
            n = suc (suc s.n);
            parts = record {
              chain_a = chain_lower _ _ g.ta (suc f.qubit) (next_at p a) s.lo fa (omega (arith, w.chain_a.1)) w₄.chain_a;
              chain_b = chain_lower _ _ g.tb (suc h.qubit) (next_at p b) s.lo fb (omega (arith, w.chain_b.1)) w₄.chain_b;
              made = w₄.made;
              freed = w₄.freed;
              kept = w₄.kept;
              long = w₄.long;
            };
            factors_is = ap (λ (r : Sparse). onto rs r.factors) (sym e) ∙ s.factors_is;
            turns_is = ap (λ (r : Sparse). power phase ⊕ r.phase) (sym e) ∙ s.turns_is;
            small = s.small;
            made_is = s.made_is;
            left_is = omega arith;
            total = omega arith;
            fewer = omega arith;
          };
        }

    -- equal qubits, and the letters do not cancel: the first record holds their product, and the second is free again
    join_both : (fa fb : List Factor) → Before g p free a b tail made left phase fa fb
        → (a ≡ 0 → ⊥) → (b ≡ 0 → ⊥) → qubit_at p a ≡ qubit_at p b → (third p a b ≡ 0 → ⊥)
        → Merging g (set (set (set p (3 * a + 2) (third p a b)) (3 * tail) a) (3 * b) free) b (next_at p a) (next_at p b) a (made + 1) (left - 2)
        ((phase + turn_by p a b) % 4)
    join_both [] fb s na' nb' q le = absurd (na' s.parts.chain_a)
    join_both (f ∷ fa) [] s na' nb' q le = absurd (nb' s.parts.chain_b)
    join_both (f ∷ fa) (h ∷ fb) s na' nb' q le =
        let w = s.parts in
        let who : Who = s.who in
        let rs : List Factor = s.rs in
        let x : Holds p who g.ta f a = w.chain_a.0 in
        let y : Holds p who g.tb h b = w.chain_b.0 in
        let a-b : a ≡ b → ⊥ = λ eq. g.a_b (one_tag x.mine (ap who eq ∙ y.mine)) in
        let ti : third p a b ≡ pauli_number (f.pauli · h.pauli) = third-is p a b f h x.letter_is y.letter_is in
        let ne : pauli_number (f.pauli · h.pauli) ≡ 0 → ⊥ = λ eq. le (ti ∙ eq) in
        let qe : f.qubit ≡ h.qubit = sym x.qubit_is ∙ q ∙ y.qubit_is in
        let v : ℕ = third p a b in
        let f' : Factor = factor f.qubit (f.pauli · h.pauli) in
        let k : Phase = phase_of f.pauli h.pauli in
        let e : merge (f ∷ fa) (h ∷ fb) ≡ turned k (with_factor f' (merge fa fb)) = merge-eq f h fa fb qe ∙ together-some f h _ ne in
        let ke : turn_by p a b ≡ phase_number k = turn_is p a b f h x.letter_is y.letter_is in
        let who₂ : Who = upd (upd who a loose) b loose in
        let w₂ = swap (detach (inr (inl refl)) h (swap (detach (inl refl) f w))) in
        let la : who₂ a ≡ loose = upd_other (upd who a loose) b loose a a-b ∙ upd_same who a loose in
        let s₃ : Step p who₂ (set p (3 * a + 2) v) who₂ a = put p who₂ a (3 * a + 2) v (omega arith) (omega arith) in
        let w₃ = of_loose s₃ x.counted.pos la w₂ in
        let w₄ = append (inr (inr refl)) a f' (counted_step s₃ x.counted) la
        (get_or-set_other p (3 * a + 2) (3 * a + 1) v 0 (omega arith) ∙ x.qubit_is)
        (get_or-set_same p (3 * a + 2) v 0 x.counted.room ∙ ti)
        (third_some f h ne)
        w.chain_a.1 w₃ in
        let lb : upd who₂ a (held g.tr f.qubit) b ≡ loose =
        upd_other who₂ a _ b (λ eq. a-b (sym eq)) ∙ upd_same (upd who a loose) b loose in
        let w₅ = push b (counted_step (put (set p (3 * a + 2) v) who₂ tail (3 * tail) a (omega arith) (omega arith)) (counted_step s₃ y.counted)) lb w₄ in
        record {
          fa = fa;
          fb = fb;
          at = record {
            who = _;
            lo = suc f.qubit;
            rs = f' ∷ rs;
            n = suc s.n;
            parts = record {
              chain_a = w₅.chain_a;
              chain_b = chain_lower _ _ g.tb (suc h.qubit) (next_at p b) (suc f.qubit) fb (omega arith) w₅.chain_b;
              made = w₅.made;
              freed = w₅.freed;
              kept = w₅.kept;
              long = w₅.long;
            };
            factors_is = ap (λ (r : Sparse). onto rs r.factors) (sym e) ∙ s.factors_is;
            turns_is =
                ap (λ (z : ℕ). power ((phase + z) % 4) ⊕ (merge fa fb).phase) ke
                ∙ ap (λ (z : Phase). z ⊕ (merge fa fb).phase) (power-times phase k) ∙ ⊕-assoc (power phase) k (merge fa fb).phase
                ∙ ap (λ (r : Sparse). power phase ⊕ r.phase) (sym e) ∙ s.turns_is;
            small = omega arith;
            made_is = omega arith;
            left_is = omega arith;
            total = omega arith;
            fewer = omega arith;
          };
        }

    -- the arms, from the invariant
    pub take_a : Merging g p free a b tail made left phase → (a ≡ 0 → ⊥) → (b ≡ 0 → ⊥) → qubit_at p a < qubit_at p b
        → Merging g (set p (3 * tail) a) free (next_at p a) b a (made + 1) (left - 1) phase
    take_a s = take_first s.fa s.fb s.at

    pub take_b : Merging g p free a b tail made left phase → (a ≡ 0 → ⊥) → (b ≡ 0 → ⊥) → qubit_at p b < qubit_at p a
        → Merging g (set p (3 * tail) b) free a (next_at p b) b (made + 1) (left - 1) phase
    take_b s = take_second s.fa s.fb s.at

    pub cancel : Merging g p free a b tail made left phase → (a ≡ 0 → ⊥) → (b ≡ 0 → ⊥) → qubit_at p a ≡ qubit_at p b → third p a b ≡ 0
        → Merging g (set (set p (3 * a) free) (3 * b) a) b (next_at p a) (next_at p b) tail made (left - 2) phase
    cancel s = cancel_both s.fa s.fb s.at

    pub join : Merging g p free a b tail made left phase → (a ≡ 0 → ⊥) → (b ≡ 0 → ⊥) → qubit_at p a ≡ qubit_at p b → (third p a b ≡ 0 → ⊥)
        → Merging g (set (set (set p (3 * a + 2) (third p a b)) (3 * tail) a) (3 * b) free) b (next_at p a) (next_at p b) a (made + 1) (left - 2)
        ((phase + turn_by p a b) % 4)
    join s = join_both s.fa s.fb s.at

-- ---- the end: what is left of one chain follows what was made

pub record Ended (j : Job) (p' : List ℕ) (who' : Who) (head : ℕ) (fs : List Factor) (free n : ℕ) : Type 0 where
  pub chain : Chain p' who' j.tr 0 head fs
  pub freed : Free p' who' free n
  pub kept : (t lo h : ℕ) (fs : List Factor) → (j.out t → ⊥) → Chain j.p₀ j.who₀ t lo h fs → Chain p' who' t lo h fs
  pub long : length p' ≡ length j.p₀

module _ {j : Job} {p : List ℕ} {who : Who} {lo a : ℕ} {fa : List Factor} {lb b : ℕ} {fb : List Factor} {e : ℕ} where
  pub end_with : {free n : ℕ} → j.out j.ta → j.out j.tr → (rs : List Factor) → Parts j p who lo a fa lb b fb lo e rs free n
      → Ended j (attached p e a) (retag j.ta j.tr who) (head_of (attached p e a) e a) (onto rs fa) free n
  end_with {free} {n} oa or [] w =
      let who' : Who = retag j.ta j.tr who in
      rw (eq-eqb e 0 w.made)
      (record {
        chain = chain_lower p who' j.tr lo a 0 fa (omega arith) (chain_own p who who' j.ta j.tr lo a fa (retag-same j.ta j.tr who) w.chain_a);
        freed = free_own p who who' free n (retag-spare j.ta j.tr who) w.freed;
        kept = λ t lo' h fs no' c. chain_own p who who' t t lo' h fs (λ r k. retag-other j.ta j.tr t who r k (λ eq. no' (subst j.out (sym eq) oa))) (w.kept t lo' h fs no' c);
        long = w.long;
      })
  end_with {free} {n} oa or (f ∷ rs) w =
      let who' : Who = retag j.ta j.tr who in
      let p' : List ℕ = set p (3 * e) a in
      let s : Step p who p' who e = put p who e (3 * e) a (omega arith) (omega arith) in
      let x : Lendable p e = w.made.0.counted in
      let o : LastHeld who j.tr lo e = last-held p who j.tr lo e (f ∷ rs) x.pos w.made in
      let c : Chain p' who' j.tr lo a fa =
      chain_own p' who who' j.ta j.tr lo a fa (retag-same j.ta j.tr who)
      (chain_step s j.ta lo a fa (λ k _ _ h. j.a_r (one_tag h o.is)) w.chain_a) in
      let m : Made p' who' j.tr lo e (f ∷ rs) =
      made_own p' who who' j.tr lo e (f ∷ rs) (λ r k. retag-other j.ta j.tr j.tr who r k (λ eq. j.a_r (sym eq)))
      (made-put p who j.tr lo lo e a (f ∷ rs) (omega arith) w.made) in
      rw (ne_eqb e 0 (λ eq. omega (arith, x.pos)))
      (record {
        chain = close p' who' j.tr lo e (f ∷ rs) fa m (subst (λ (y : ℕ). Chain p' who' j.tr lo y fa) (sym (get_or-set_same p (3 * e) a 0 (omega (arith, x.room)))) c);
        freed = free_own p' who who' free n (retag-spare j.ta j.tr who) (free_step s free n (λ k _ _ h. no_mix h o.is) w.freed);
        kept = λ t lo' h fs no' d. chain_own p' who who' t t lo' h fs (λ r k. retag-other j.ta j.tr t who r k (λ eq. no' (subst j.out (sym eq) oa)))
            (chain_step s t lo' h fs (λ k _ _ h'. no' (subst j.out (sym (one_tag h' o.is)) or)) (w.kept t lo' h fs no' d));
        long = s.len ∙ w.long;
      })

-- ---- the result, where one of the chains is at its end

module _ {p₀ : List ℕ} {free₀ a₀ na b₀ nb : ℕ} (g : Operands p₀ free₀ a₀ na b₀ nb) {p : List ℕ} {free a b tail made left phase : ℕ} where
  of_first : (fa fb : List Factor) → Before g p free a b tail made left phase fa fb
      → b ≡ 0
      → Merged g (attached p tail a) (head_of (attached p tail a) tail a) (made + left) phase free
  of_first fa [] s z =
      let w = s.parts in
      let who : Who = s.who in
      let rs : List Factor = s.rs in
      let d = end_with (inl refl) (inr (inr refl)) rs w in
      let e : onto rs fa ≡ (merge g.fa g.fb).factors = ap (λ (r : Sparse). onto rs r.factors) (sym (merge_none fa)) ∙ s.factors_is in
      record {
        who' = retag g.ta g.tr who;
        n' = s.n;
        chain = subst (λ (fs : List Factor). Chain (attached p tail a) (retag g.ta g.tr who) g.tr 0 (head_of (attached p tail a) tail a) fs) e d.chain;
        freed = d.freed;
        count_is = omega (arith, length-onto rs fa) ∙ ap (λ (fs : List Factor). length fs) e;
        returned = s.total;
        phase_is = sym (number-power phase s.small) ∙ ap phase_number (sym (⊕-one (power phase)) ∙ ap (λ (r : Sparse). power phase ⊕ r.phase) (sym (merge_none fa)) ∙ s.turns_is);
        kept = λ t lo h fs na nb nr. d.kept t lo h fs (⊎_elim na (⊎_elim nb nr));
        long = d.long;
      }
  of_first fa (h ∷ fb) s z = absurd (let x : 0 < b = s.parts.chain_b.0.counted.pos in omega arith)

  of_second : (fa fb : List Factor) → Before g p free a b tail made left phase fa fb
      → a ≡ 0
      → Merged g (attached p tail b) (head_of (attached p tail b) tail b) (made + left) phase free
  of_second [] fb s z =
      let w = s.parts in
      let who : Who = s.who in
      let rs : List Factor = s.rs in
      let d = end_with (inr (inl refl)) (inr (inr refl)) rs (swap w) in
      record {
        who' = retag g.tb g.tr who;
        n' = s.n;
        chain = subst (λ (fs : List Factor). Chain (attached p tail b) (retag g.tb g.tr who) g.tr 0 (head_of (attached p tail b) tail b) fs) s.factors_is d.chain;
        freed = d.freed;
        count_is = omega (arith, length-onto rs fb) ∙ ap (λ (fs : List Factor). length fs) s.factors_is;
        returned = s.total;
        phase_is = sym (number-power phase s.small) ∙ ap phase_number (sym (⊕-one (power phase)) ∙ s.turns_is);
        kept = λ t lo h fs na nb nr. d.kept t lo h fs (⊎_elim na (⊎_elim nb nr));
        long = d.long;
      }
  of_second (f ∷ fa) fb s z = absurd (let x : 0 < a = s.parts.chain_a.0.counted.pos in omega arith)

  pub rest_a : Merging g p free a b tail made left phase → b ≡ 0 → Merged g (attached p tail a) (head_of (attached p tail a) tail a) (made + left) phase free
  rest_a s = of_first s.fa s.fb s.at

  pub rest_b : Merging g p free a b tail made left phase → a ≡ 0 → Merged g (attached p tail b) (head_of (attached p tail b) tail b) (made + left) phase free
  rest_b s = of_second s.fa s.fb s.at

-- ---- what the code needs to be safe, as plain facts on numbers

pub record TurnReady (p : List ℕ) (free a b tail made left phase na nb : ℕ) : Type 0 where
  pub room : Meeting p free tail a b
  pub two : 2 ≤ left
  pub fewer : made + left ≤ na + nb
  pub few : na + nb < 65536
  pub small : phase < 4

module _ {p₀ : List ℕ} {free₀ a₀ na b₀ nb : ℕ} (g : Operands p₀ free₀ a₀ na b₀ nb) {p : List ℕ} {free a b tail made left phase : ℕ} where
  of_both : (fa fb : List Factor) → Before g p free a b tail made left phase fa fb
      → (a ≡ 0 → ⊥) → (b ≡ 0 → ⊥)
      → TurnReady p free a b tail made left phase na nb
  of_both [] fb s na' nb' = absurd (na' s.parts.chain_a)
  of_both (f ∷ fa) [] s na' nb' = absurd (nb' s.parts.chain_b)
  of_both (f ∷ fa) (h ∷ fb) s na' nb' =
      let w = s.parts in
      let who : Who = s.who in
      let x : Holds p who g.ta f a = w.chain_a.0 in
      let y : Holds p who g.tb h b = w.chain_b.0 in
      record {
        room = record {
          free_low = free_low p who free s.n w.freed;
          tail_low = last_low p who g.tr s.lo tail s.rs w.made;
          a_low = x.counted.low;
          b_low = y.counted.low;
          tail_room = last_room p who g.tr s.lo tail s.rs (omega (arith, x.counted.room)) w.made;
          a_room = x.counted.room;
          b_room = y.counted.room;
        };
        two = omega arith;
        fewer = s.fewer;
        few = g.few;
        small = s.small;
      }

  pub ready : Merging g p free a b tail made left phase → (a ≡ 0 → ⊥) → (b ≡ 0 → ⊥) → TurnReady p free a b tail made left phase na nb
  ready s = of_both s.fa s.fb s.at

  pub low_a : Merging g p free a b tail made left phase → a < 65536
  low_a s = chain_low p s.at.who g.ta s.at.lo a s.fa s.at.parts.chain_a

  pub low_b : Merging g p free a b tail made left phase → b < 65536
  low_b s = chain_low p s.at.who g.tb s.at.lo b s.fb s.at.parts.chain_b

  pub low_tail : Merging g p free a b tail made left phase → tail < 65536
  low_tail s = last_low p s.at.who g.tr s.at.lo tail s.at.rs s.at.parts.made

  pub room_tail : Merging g p free a b tail made left phase → (tail ≡ 0 → ⊥) → 3 * tail < length p
  room_tail s = last_fits p s.at.who g.tr s.at.lo tail s.at.rs s.at.parts.made

  pub sum_fits : Merging g p free a b tail made left phase → made + left < 65536
  sum_fits s = omega (arith, s.at.fewer, g.few)

-- ---- a turn, as the code has it

module _ {p₀ : List ℕ} {free₀ a₀ na b₀ nb : ℕ} (g : Operands p₀ free₀ a₀ na b₀ nb) {p : List ℕ} {free a b tail made left phase : ℕ}
    (s : Merging g p free a b tail made left phase) (na' : a ≡ 0 → ⊥) (nb' : b ≡ 0 → ⊥) where
  no_turn : (phase + 0) % 4 ≡ phase
  no_turn = omega (arith, s.at.small)

  abbrev After : List ℕ → Turn → Type 0
  After p' t = Merging g p' t.free t.a t.b t.tail (made + t.made) (left - t.used) ((phase + t.phase) % 4)

  met_after : qubit_at p a ≡ qubit_at p b → (c : Bool) → eqb (third p a b) 0 ≡ c → After (met_pool p free tail a b) (met_turn p tail a b)
  met_after q true e = rw (e, no_turn, add-zero made) (cancel g s na' nb' q (eqb-true (third p a b) 0 e))
  met_after q false e = rw e (join g s na' nb' q (eqb-false (third p a b) 0 e))

  turn_after : (c d : Bool) → ltb (qubit_at p a) (qubit_at p b) ≡ c → ltb (qubit_at p b) (qubit_at p a) ≡ d → After (merge_pool p free tail a b) (merge_turn p free tail a b)
  turn_after true d e f = rw (e, no_turn) (take_a g s na' nb' (ltb-true _ _ e))
  turn_after false true e f = rw (e, f, no_turn) (take_b g s na' nb' (ltb-true _ _ f))
  turn_after false false e f = rw (e, f) (met_after (omega (arith, ltb-false (qubit_at p a) (qubit_at p b) e, ltb-false (qubit_at p b) (qubit_at p a) f)) _ refl)

  pub turn' : {t : Turn} {p' : List ℕ} → t ≡ merge_turn p free tail a b → p' ≡ merge_pool p free tail a b → After p' t
  turn' t-is p-is = rw (t-is, p-is) (turn_after _ _ refl refl)

-- what the code answers at each way out of a turn
module _ (p : List ℕ) (free tail a b : ℕ) where
  module _ {x y : ℕ} {m : NumberProduct} (x-is : x ≡ next_at p a) (y-is : y ≡ next_at p b) (m-is : m ≡ number_product (letter_at p a) (letter_at p b)) where
    letter_is' : m.pauli ≡ third p a b
    letter_is' = ap (λ (r : NumberProduct). r.pauli) m-is

    turn_is' : m.phase ≡ turn_by p a b
    turn_is' = ap (λ (r : NumberProduct). r.phase) m-is

    pub met_none : {p₂ : List ℕ} → m.pauli ≡ 0 → p₂ ≡ set (set p (3 * a) free) (3 * b) a
        → (record { free = b; a = x; b = y; tail = tail; made = 0; used = 2; phase = 0 } ≡ met_turn p tail a b) × (p₂ ≡ met_pool p free tail a b)
    met_none z e = rw (eq-eqb (third p a b) 0 (sym letter_is' ∙ z)) (rw (x-is, y-is), e)

    pub met_some : {p₁ p₂ p₃ : List ℕ} {t : ℕ} → (m.pauli ≡ 0 → ⊥) → p₁ ≡ set p (3 * a + 2) m.pauli → p₂ ≡ set p₁ (3 * tail) a → p₃ ≡ set p₂ (3 * b) free → t ≡ m.phase
        → (record { free = b; a = x; b = y; tail = a; made = 1; used = 2; phase = t } ≡ met_turn p tail a b) × (p₃ ≡ met_pool p free tail a b)
    met_some ne e₁ e₂ e₃ t-is =
        rw (ne_eqb (third p a b) 0 (λ z. ne (letter_is' ∙ z))) (rw (x-is, y-is, t-is, turn_is'), rw (e₃, e₂, e₁, letter_is'))

  module _ {qa qb : ℕ} {t : Turn} {p' : List ℕ} (qa-is : qa ≡ qubit_at p a) (qb-is : qb ≡ qubit_at p b) where
    pub first_turn : {x : ℕ} → qa < qb → x ≡ next_at p a → t ≡ kept_turn free x b a → p' ≡ set p (3 * tail) a
        → (t ≡ merge_turn p free tail a b) × (p' ≡ merge_pool p free tail a b)
    first_turn l x-is t-is p-is = rw (lt-ltb (qubit_at p a) (qubit_at p b) (omega arith)) (t-is ∙ rw x-is, p-is)

    pub second_turn : {x : ℕ} → qb < qa → x ≡ next_at p b → t ≡ kept_turn free a x b → p' ≡ set p (3 * tail) b
        → (t ≡ merge_turn p free tail a b) × (p' ≡ merge_pool p free tail a b)
    second_turn l x-is t-is p-is =
        rw (le-ltb (qubit_at p a) (qubit_at p b) (omega arith), lt-ltb (qubit_at p b) (qubit_at p a) (omega arith)) (t-is ∙ rw x-is, p-is)

    pub third-turn : qa ≤ qb → qb ≤ qa → t ≡ met_turn p tail a b → p' ≡ met_pool p free tail a b
        → (t ≡ merge_turn p free tail a b) × (p' ≡ merge_pool p free tail a b)
    third-turn l k t-is p-is =
        rw (le-ltb (qubit_at p a) (qubit_at p b) (omega arith), le-ltb (qubit_at p b) (qubit_at p a) (omega arith)) (t-is, p-is)

-- how much a turn counts
pub record Small (t : Turn) : Type 0 where
  pub made_low : t.made ≤ 1
  pub used_some : 1 ≤ t.used
  pub used_low : t.used ≤ 2
  pub fewer : t.made ≤ t.used
  pub phase_low : t.phase < 4

module _ (p : List ℕ) (free tail a b : ℕ) where
  small_met : (c : Bool) → eqb (third p a b) 0 ≡ c → Small (met_turn p tail a b)
  small_met true e =
      rw e (record { made_low = omega arith; used_some = omega arith; used_low = omega arith; fewer = omega arith; phase_low = omega arith })
  small_met false e =
      rw e
      (record {
        made_low = omega arith;
        used_some = omega arith;
        used_low = omega arith;
        fewer = omega arith;
        phase_low = phase_number-small (phase_of (pauli_of (letter_at p a)) (pauli_of (letter_at p b)));
      })

  small_turn : (c d : Bool) → ltb (qubit_at p a) (qubit_at p b) ≡ c → ltb (qubit_at p b) (qubit_at p a) ≡ d → Small (merge_turn p free tail a b)
  small_turn true d e f =
      rw e (record { made_low = omega arith; used_some = omega arith; used_low = omega arith; fewer = omega arith; phase_low = omega arith })
  small_turn false true e f =
      rw (e, f) (record { made_low = omega arith; used_some = omega arith; used_low = omega arith; fewer = omega arith; phase_low = omega arith })
  small_turn false false e f = rw (e, f) (small_met _ refl)

  pub small : {t : Turn} → t ≡ merge_turn p free tail a b → Small t
  small t-is = rw t-is (small_turn _ _ refl refl)

-- which chain is left
abbrev pub Rest : ℕ → ℕ → ℕ → Type 0
Rest a b rest = ((a ≡ 0) × (rest ≡ b)) ⊎ ((b ≡ 0) × (rest ≡ a))

module _ {p₀ : List ℕ} {free₀ a₀ na b₀ nb : ℕ} (g : Operands p₀ free₀ a₀ na b₀ nb) {p : List ℕ} {free a b tail made left phase : ℕ}
    (s : Merging g p free a b tail made left phase) {rest : ℕ} where
  pub low_rest : Rest a b rest → rest < 65536
  low_rest (inl w) = omega (arith, low_b g s, w.1)
  low_rest (inr w) = omega (arith, low_a g s, w.1)

  pub finish : {p' : List ℕ} {head : ℕ} → Rest a b rest → p' ≡ attached p tail rest → head ≡ head_of p' tail rest → Merged g p' head (made + left) phase free
  finish (inl w) p-is h-is = rw (h-is, p-is, w.1) (rest_b g s w.0)
  finish (inr w) p-is h-is = rw (h-is, p-is, w.1) (rest_a g s w.0)

pub multiplied_low : {p : List ℕ} {free a na b nb : ℕ} {g : Operands p free a na b nb} {p' : List ℕ} {head count phase free' : ℕ}
    → Merged g p' head count phase free' → head < 65536
multiplied_low {g = g} {p'} {head} m = chain_low p' m.who' g.tr 0 head (merge g.fa g.fb).factors m.chain
