-- The words beside the state, move by move: a use less, a node finished, a use taken.
use mathlib.Core.Path.{◌≡◌, refl, ap, ap₂, sym, ◌∙◌, subst}
use mathlib.Core.Bool.{Bool, true, false, cond}
use mathlib.Core.List.{List}
use Prim.Native.Nat.{ℕ, ◌+◌, ◌*◌, ◌-◌, ◌%◌, ◌≤◌, ◌<◌}
use native.Mathlib.Omega.{arith}
use borrow.Author.Tests.{eqb-true, eqb-false, eq-eqb, ne_eqb, le-leb, lt-leb}
use lib.Dec.{eqb}
use lib.ListN.{length, set, length-set}
use lib.Seq.{get_or-set_same, get_or-set_other}
use Rattle.pauli.specs.Letters.{◌⊕◌, power, phase_number}
use Rattle.pauli.proofs.Numbers.{power-rest, power-sum}
use Rattle.arena.specs.Types.{Phase}
use Rattle.arena.specs.Errors.{ExpansionLimit, NoPool}
use Rattle.arena.specs.References.{node_in, phase_in}
use Rattle.arena.specs.Sparse.{Factor, Sparse, size}
use Rattle.arena.specs.Walk.{fine, refused, update, State, Taken, take_use}
use Rattle.arena.specs.Pool.{Who, Chain, Free}
use Rattle.arena.specs.PoolSteps.{Source, Copied}
use Rattle.arena.specs.Code.Results.{Ledger, Value, Says}
use Rattle.arena.specs.Code.WalkWords.{uses_at, with_use, value_at, head_in, value_named, Marks, Rep, Takeable, TookRep}
use Rattle.arena.proofs.Walk.Outcomes.{update_same, update_other}
use Rattle.arena.proofs.Chains.Letters.{number-power}
use Rattle.arena.proofs.Chains.Parts.{chain_own, free_own, retag, retag-same, retag-other, retag-spare}
use Rattle.arena.proofs.Steps.Scratch.{length-use, use_same, use_other, use_value, uses-set}

-- ---- phases as numbers

pub word_sum : (a b : ℕ) (p q : Phase) → a ≡ phase_number p → b ≡ phase_number q → (a + b) % 4 ≡ phase_number (p ⊕ q)
word_sum a b p q ea eb = ap₂ (λ (x y : ℕ). (x + y) % 4) ea eb ∙ sym (number-power ((phase_number p + phase_number q) % 4) (omega arith))
    ∙ ap phase_number (sym (power-rest (phase_number p + phase_number q) ((phase_number p + phase_number q) % 4) refl) ∙ power-sum p q)

-- ---- one use less

module _ {count room : ℕ} {l p : List ℕ} {left : Ledger} {who : Who} {s : State} (r : Rep count room l p left who s) where
  pub less_rep : (j u : ℕ) {p' : List ℕ} {who' : Who} (left' : Ledger) (work held : ℕ) → j < count → u ≡ s.uses j
      → ((k h : ℕ) (fs : List Factor) → 0 < update s.uses j (s.uses j - 1) k → Chain p who (k + 2) 0 h fs → Chain p' who' (k + 2) 0 h fs)
      → 0 < s.uses j → Free p' who' left'.free left'.spare → left'.spare + held ≡ room → left'.work ≡ work
      → Rep count room (with_use l j (u - 1)) p' left' who' (record { uses = update s.uses j (s.uses j - 1); done = s.done; value = s.value; work = work; held = held })
  less_rep j u {p'} {who'} left' work held lj u-is keep used fr bal paid = record {
    scratch = record {
      long = omega (arith, length-use l j (u - 1), r.scratch.long);
      uses_are = λ k lk. uses-at k lk (eqb k j) refl;
      marks_are = λ k lk. rw (use_value l j (u - 1) k) (r.scratch.marks_are k lk);
    };
    chains = λ k lk d h. rw (use_value l j (u - 1) k) (keep k (head_in (value_at l k)) (s.value k).factors h (r.chains k lk d (more k h (eqb k j) refl)));
    freed = fr;
    balance = bal;
    work_is = paid;
  }
    where
      uses-at : (k : ℕ) → k < count → (b : Bool) → eqb k j ≡ b → uses_at (with_use l j (u - 1)) k ≡ cond b (s.uses j - 1) (s.uses k)
      uses-at k lk true e = rw (eqb-true k j e) (use_same l j (u - 1) (omega (arith, r.scratch.long)) ∙ ap (λ (v : ℕ). v - 1) u-is)
      uses-at k lk false e = use_other l j (u - 1) k (eqb-false k j e) ∙ r.scratch.uses_are k lk

      more : (k : ℕ) → 0 < update s.uses j (s.uses j - 1) k → (b : Bool) → eqb k j ≡ b → 0 < s.uses k
      more k h true e = rw (eqb-true k j e) used
      more k h false e = rw (update_other s.uses j (s.uses j - 1) k (eqb-false k j e)) at h

  -- ---- a node finished

  pub finish_rep : (i : ℕ) (v : Sparse) (m : ℕ) {p' : List ℕ} {who' : Who} (left' : Ledger) (work held : ℕ) → i < count → Marks true v m
      → ((k h : ℕ) (fs : List Factor) → (k ≡ i → ⊥) → Chain p who (k + 2) 0 h fs → Chain p' who' (k + 2) 0 h fs)
      → Chain p' who' (i + 2) 0 (head_in m) v.factors → Free p' who' left'.free left'.spare → left'.spare + held ≡ room → left'.work ≡ work
      → Rep count room (set l (4 * i + 2) m) p' left' who' (record { uses = s.uses; done = update s.done i true; value = update s.value i v; work = work; held = held })
  finish_rep i v m {p'} {who'} left' work held li m-is keep ch fr bal paid = record {
    scratch = record {
      long = rw length-set r.scratch.long;
      uses_are = λ k lk. uses-set l i 2 m k (omega arith) (omega arith) ∙ r.scratch.uses_are k lk;
      marks_are = λ k lk. mark-at k lk (eqb k i) refl;
    };
    chains = λ k lk d u. chain-at k lk d u (eqb k i) refl;
    freed = fr;
    balance = bal;
    work_is = paid;
  }
    where
      here : value_at (set l (4 * i + 2) m) i ≡ m
      here = get_or-set_same l (4 * i + 2) m 0 (omega (arith, r.scratch.long))

      there : (k : ℕ) → (k ≡ i → ⊥) → value_at (set l (4 * i + 2) m) k ≡ value_at l k
      there k ne = get_or-set_other l (4 * i + 2) (4 * k + 2) m 0 (λ q. ne (omega arith))

      mark-at : (k : ℕ) → k < count → (b : Bool) → eqb k i ≡ b → Marks (cond b true (s.done k)) (cond b v (s.value k)) (value_at (set l (4 * i + 2) m) k)
      mark-at k lk true e = subst (λ (j : ℕ). Marks true v (value_at (set l (4 * i + 2) m) j)) (sym (eqb-true k i e)) (subst (Marks true v) (sym here) m-is)
      mark-at k lk false e = subst (Marks (s.done k) (s.value k)) (sym (there k (eqb-false k i e))) (r.scratch.marks_are k lk)

      chain-at : (k : ℕ) → k < count → update s.done i true k ≡ true → 0 < s.uses k → (b : Bool) → eqb k i ≡ b
          → Chain p' who' (k + 2) 0 (head_in (value_at (set l (4 * i + 2) m) k)) (cond b v (s.value k)).factors
      chain-at k lk d u true e =
          subst (λ (j : ℕ). Chain p' who' (j + 2) 0 (head_in (value_at (set l (4 * i + 2) m) j)) v.factors) (sym (eqb-true k i e))
          (subst (λ (x : ℕ). Chain p' who' (i + 2) 0 (head_in x) v.factors) (sym here) ch)
      chain-at k lk d u false e =
          let ne = eqb-false k i e in
          subst (λ (x : ℕ). Chain p' who' (k + 2) 0 (head_in x) (s.value k).factors) (sym (there k ne))
          (keep k (head_in (value_at l k)) (s.value k).factors ne (r.chains k lk (sym (update_other s.done i true k ne) ∙ d) u))

-- ---- a use taken

module _ {l p : List ℕ} {limit w : ℕ} {left : Ledger} (g : Takeable l p limit w left) where
  abbrev pub s : State
  s = g.s

  abbrev pub j : ℕ
  j = node_in w

  abbrev pub x : Sparse
  x = g.s.value (node_in w)

  pub word_room : 4 * j + 3 < length l
  word_room = omega (arith, g.rep.scratch.long, g.named)

  pub uses_is : uses_at l j ≡ s.uses j
  uses_is = g.rep.scratch.uses_are j g.named

  pub mark_is : Marks true x (value_at l j)
  mark_is = subst (λ b. Marks b x (value_at l j)) g.done_is (g.rep.scratch.marks_are j g.named)

  pub use_some : 1 ≤ uses_at l j
  use_some = omega (arith, uses_is, g.used)

  module _ {u : ℕ} {v : Value} (u-is : u ≡ uses_at l j) (v-is : v ≡ value_named l w) where
    pub size_is : v.count ≡ size x
    size_is = ap (λ (k : Value). k.count) v-is ∙ mark_is.1

    pub turn_is : v.phase ≡ phase_number (phase_in w ⊕ x.phase)
    turn_is = ap (λ (k : Value). k.phase) v-is ∙ word_sum (w % 4) _ (power (w % 4)) x.phase (sym (number-power (w % 4) (omega arith))) mark_is.2

    pub chain_is : Chain p g.who (j + 2) 0 v.head x.factors
    chain_is = subst (λ (k : Value). Chain p g.who (j + 2) 0 k.head x.factors) (sym v-is) (g.rep.chains j g.named g.done_is g.used)

    pub took_move : {l' : List ℕ} → u ≡ 1 → l' ≡ with_use l j (u - 1) → Says (take_use limit g.room w s) (fine (v, left)) (TookRep g l' p)
    took_move e l-is = rw (l-is, eq-eqb (s.uses j) 1 (sym uses_is ∙ sym u-is ∙ e)) (record {
      says = record {
        who' = who';
        rep = less_rep g.rep j u left s.work s.held g.named (u-is ∙ uses_is) (λ k h fs used c. chain_own p g.who who' (k + 2) (k + 2) 0 h fs (λ r q. retag-other (j + 2) g.tag (k + 2) g.who r q (other k used)) c)
            g.used (free_own p g.who who' left.free left.spare (retag-spare (j + 2) g.tag g.who) g.rep.freed) g.rep.balance g.rep.work_is;
        value = record { chain = chain_own p g.who who' (j + 2) g.tag 0 v.head x.factors (retag-same (j + 2) g.tag g.who) chain_is; count_is = size_is; phase_is = turn_is };
        kept = λ t lo h fs low ne c. chain_own p g.who who' t t lo h fs (λ r q. retag-other (j + 2) g.tag t g.who r q (λ eq. omega arith)) c;
      };
    })
      where
        who' : Who
        who' = retag (j + 2) g.tag g.who

        other : (k : ℕ) → 0 < update s.uses j (s.uses j - 1) k → k + 2 ≡ j + 2 → ⊥
        other k h eq = let q : k ≡ j = omega arith in let z : 0 < update s.uses j (s.uses j - 1) j = subst (λ (i : ℕ). 0 < update s.uses j (s.uses j - 1) i) q h in
            omega (arith, update_same s.uses j (s.uses j - 1), z, uses_is)

    not_last : (u ≡ 1 → ⊥) → eqb (s.uses j) 1 ≡ false
    not_last ne = ne_eqb (s.uses j) 1 (λ e. ne (u-is ∙ uses_is ∙ e))

    pub took-17 : {B : Type 0} {R : Taken → B → Type 0} → (u ≡ 1 → ⊥) → limit - left.work < v.count → Says (take_use limit g.room w s) (refused ExpansionLimit) R
    took-17 ne lt = rw (not_last ne, lt-leb (s.work + size x) limit (omega (arith, g.rep.work_is, g.paid, size_is))) (record { says = refl })

    pub took-18 : {B : Type 0} {R : Taken → B → Type 0} → (u ≡ 1 → ⊥) → v.count ≤ limit - left.work → left.spare < v.count → Says (take_use limit g.room w s) (refused NoPool) R
    took-18 ne le lt = rw (not_last ne, le-leb (s.work + size x) limit (omega (arith, g.rep.work_is, g.paid, size_is)), lt-leb (s.held + size x) g.room (omega (arith, g.rep.balance, size_is))) (record { says = refl })

    abbrev pub source : v.count ≤ left.spare → Source p left.free v.head v.count
    source le =
        let e : left.spare ≡ v.count + (left.spare - v.count) = omega arith in
        record {
          who = g.who;
          ta = j + 2;
          tr = g.tag;
          a_r = λ q. omega (arith, g.tag_low);
          fs = x.factors;
          n = left.spare - v.count;
          chain = chain_is;
          freed = subst (λ (k : ℕ). Free p g.who left.free k) e g.rep.freed;
          count_is = size_is;
        }

    pub took_copy : {l' p' : List ℕ} {head free : ℕ} → (u ≡ 1 → ⊥) → v.count ≤ limit - left.work → (le : v.count ≤ left.spare) → l' ≡ with_use l j (u - 1) → Copied (source le) p' head free
        → Says (take_use limit g.room w s) (fine (record { head = head; count = v.count; phase = v.phase }, record { free = free; spare = left.spare - v.count; work = left.work + v.count })) (TookRep g l' p')
    took_copy {l'} {p'} {head} {free} ne lw le l-is m =
        rw (l-is, not_last ne, le-leb (s.work + size x) limit (omega (arith, g.rep.work_is, g.paid, size_is)), le-leb (s.held + size x) g.room (omega (arith, g.rep.balance, size_is))) (record {
          says = record {
            who' = m.who';
            rep = less_rep g.rep j u _ (s.work + size x) (s.held + size x) g.named (u-is ∙ uses_is) (λ k h fs used c. m.kept (k + 2) 0 h fs (λ q. omega (arith, g.tag_low)) c)
                g.used m.freed (omega (arith, g.rep.balance, size_is)) (omega (arith, g.rep.work_is, size_is));
            value = record { chain = m.chain; count_is = size_is; phase_is = turn_is };
            kept = λ t lo h fs low nt c. m.kept t lo h fs nt c;
          };
        })
