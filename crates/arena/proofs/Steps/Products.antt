-- Two uses taken, and a product made: what each call of `combine_at` and `multiply_at` is given, and what comes out. And one factor made.
use mathlib.Core.Path.{◌≡◌, refl, ap, ap₂, sym, ◌∙◌, subst}
use mathlib.Core.Bool.{true}
use mathlib.Core.List.{List, [], ◌∷◌}
use Prim.Native.Nat.{ℕ, suc, ◌+◌, ◌*◌, ◌-◌, ◌%◌, ◌≤◌, ◌<◌, min}
use native.Mathlib.Omega.{arith}
use borrow.Author.Tests.{le-leb, lt-leb}
use lib.ListN.{length, set}
use Rattle.pauli.specs.Letters.{◌⊕◌, phase_number}
use Rattle.pauli.proofs.Numbers.{phase_number-small}
use Rattle.arena.specs.Types.{Pauli}
use Rattle.arena.specs.Errors.{PbcError, ExpansionLimit, NoPool}
use Rattle.arena.specs.References.{node_in}
use Rattle.arena.specs.Nodes.{PauliNode, node_at}
use Rattle.arena.specs.Sparse.{Sparse, factor, size, multiply, merge, one}
use Rattle.arena.specs.Walk.{Out, fine, refused, bind, State, Taken, take_use, combine}
use Rattle.arena.specs.Pool.{Chain, Free}
use Rattle.arena.specs.PoolSteps.{Operands, Merged, Lender, Lent}
use Rattle.arena.specs.Code.Results.{Ledger, Value, Says}
use Rattle.arena.specs.Code.WalkWords.{edge, edges, none, value_word, Stands, Takeable, TookRep, Multiplying, product_made, Walking, Combining, Making, factor_made, Ordered}
use Rattle.arena.proofs.Walk.Outcomes.{post-fine}
use Rattle.arena.proofs.DecodedNodes.{Fits, node_fits}
use Rattle.arena.proofs.SparseProducts.{product_proper}
use Rattle.arena.proofs.Walk.Bounds.{size_few}
use Rattle.arena.proofs.Walk.Uses.{edge_same}
use Rattle.arena.proofs.Walk.Invariant.{owes}
use Rattle.arena.proofs.Walk.Evaluates.{Took, take_post}
use Rattle.arena.proofs.Chains.Parts.{chain_low}
use Rattle.arena.proofs.Steps.Scratch.{value_word-head, marks_word}
use Rattle.arena.proofs.Steps.Saying.{said-fine, says_as, refuses_on}
use Rattle.arena.proofs.Steps.Moves.{word_sum, finish_rep}

-- ---- two uses taken

module _ {l p : List ℕ} {limit i lw rt : ℕ} {left : Ledger} (g : Combining l p limit i lw rt left) where
  abbrev pub w : Walking g.words l p g.count limit left
  w = g.at

  abbrev pub node : ℕ → PauliNode
  node = node_at g.at.n g.words

  pub below : (node_in lw < i) × (node_in rt < i)
  below = subst (Fits w.n i) g.is_product (node_fits w.n g.words i)

  pub owe : (j : ℕ) → edge lw j + edge rt j ≤ w.s.uses j
  owe j = subst (λ nd. edges nd j ≤ w.s.uses j) g.is_product (owes limit w.room w.n g.count node w.total w.rest w.s i g.low g.not_done g.used w.inv j)

  pub left_named : node_in lw < g.count
  left_named = omega (arith, below.0, g.low)

  pub right_named : node_in rt < g.count
  right_named = omega (arith, below.1, g.low)

  pub left_used : 0 < w.s.uses (node_in lw)
  left_used = omega (arith, owe (node_in lw), edge_same lw)

  abbrev pub first : Takeable l p limit lw left
  first = record {
    count = g.count;
    room = w.room;
    who = w.who;
    s = w.s;
    tag = 0;
    tag_low = omega arith;
    rep = w.rep;
    named = left_named;
    nodes_few = w.nodes_few;
    done_is = g.left_done;
    used = left_used;
    paid = w.inv.paid;
  }

  -- what follows when the second value is in hand, and when the first is
  abbrev on_two : Taken → Taken → Out State
  on_two a b = product_made limit i a.value b.value b.state

  abbrev on_one : Taken → Out State
  on_one a = bind (take_use limit w.room rt a.state) (on_two a)

  module _ {l₁ p₁ : List ℕ} {o₁ : Out (Value × Ledger)} (A₁ : Says (take_use limit w.room lw w.s) o₁ (TookRep first l₁ p₁)) where
    pub no-first : {B : Type 0} {S : State → B → Type 0} {e : PbcError} → o₁ ≡ refused e → Says (combine limit w.room lw rt i w.s) (refused e) S
    no-first q = refuses_on A₁ on_one q

    module _ {a : Value} {after : Ledger} (z₁ : o₁ ≡ fine (a, after)) where
      abbrev pub one₁ : (t : Taken) × (take_use limit w.room lw w.s ≡ fine t) × TookRep first l₁ p₁ t (a, after)
      one₁ = said-fine A₁ z₁

      pub took₁ : Took limit w.room w.n g.count node w.total w.rest none 0 lw w.s one₁.0
      took₁ = post-fine (Took limit w.room w.n g.count node w.total w.rest none 0 lw w.s) one₁.1
          (take_post limit w.room w.n g.count node w.total w.rest none 0 lw w.s left_named g.left_done left_used w.inv)

      pub right_still : one₁.0.state.done (node_in rt) ≡ true
      right_still = ap (λ f. f (node_in rt)) took₁.done_is ∙ g.right_done

      pub right_used : 0 < one₁.0.state.uses (node_in rt)
      right_used = omega (arith, owe (node_in rt), edge_same rt, took₁.uses_are (node_in rt))

      abbrev pub second : Takeable l₁ p₁ limit rt after
      second = record {
        count = g.count;
        room = w.room;
        who = one₁.2.who';
        s = one₁.0.state;
        tag = 1;
        tag_low = omega arith;
        rep = one₁.2.rep;
        named = right_named;
        nodes_few = w.nodes_few;
        done_is = right_still;
        used = right_used;
        paid = took₁.inv.paid;
      }

      combine-one : combine limit w.room lw rt i w.s ≡ on_one one₁.0
      combine-one = ap (λ o. bind o on_one) one₁.1

      module _ {l₂ p₂ : List ℕ} {o₂ : Out (Value × Ledger)} (A₂ : Says (take_use limit w.room rt one₁.0.state) o₂ (TookRep second l₂ p₂)) where
        pub no_second : {B : Type 0} {S : State → B → Type 0} {e : PbcError} → o₂ ≡ refused e → Says (combine limit w.room lw rt i w.s) (refused e) S
        no_second q = says_as (refuses_on A₂ (on_two one₁.0) q) combine-one

        module _ {b : Value} {rest : Ledger} (z₂ : o₂ ≡ fine (b, rest)) where
          abbrev pub two₂ : (t : Taken) × (take_use limit w.room rt one₁.0.state ≡ fine t) × TookRep second l₂ p₂ t (b, rest)
          two₂ = said-fine A₂ z₂

          pub took₂ : Took limit w.room w.n g.count node w.total w.rest (λ j. none j + edge lw j) (0 + size one₁.0.value) rt one₁.0.state two₂.0
          took₂ = post-fine (Took limit w.room w.n g.count node w.total w.rest (λ j. none j + edge lw j) (0 + size one₁.0.value) rt one₁.0.state) two₂.1
              (take_post limit w.room w.n g.count node w.total w.rest (λ j. none j + edge lw j) (0 + size one₁.0.value) rt one₁.0.state right_named right_still right_used took₁.inv)

          pub product_few : size (multiply one₁.0.value two₂.0.value) ≤ 256
          product_few = omega (arith, w.qubits_few, size_few w.n (multiply one₁.0.value two₂.0.value) (product_proper w.n one₁.0.value two₂.0.value proper₁ proper₂))
            where
              proper₁ : Ordered w.n one₁.0.value
              proper₁ = subst (Ordered w.n) (sym took₁.value_is) (w.inv.right (node_in lw) left_named g.left_done).proper

              proper₂ : Ordered w.n two₂.0.value
              proper₂ = subst (Ordered w.n) (sym took₂.value_is) (took₁.inv.right (node_in rt) right_named right_still).proper

          abbrev pub multiplying : Multiplying l₂ p₂ limit i a b rest
          multiplying = record {
            count = g.count;
            room = w.room;
            who = two₂.2.who';
            s = two₂.0.state;
            x = one₁.0.value;
            y = two₂.0.value;
            rep = two₂.2.rep;
            first = record {
              chain = two₂.2.kept 0 0 a.head one₁.0.value.factors (omega arith) (λ q. omega arith) one₁.2.value.chain;
              count_is = one₁.2.value.count_is;
              phase_is = one₁.2.value.phase_is;
            };
            second = two₂.2.value;
            low = g.low;
            few = w.few;
            paid = took₂.inv.paid;
            in_hand = omega (arith, took₂.inv.holds);
            product_few = product_few;
          }

          pub combined : {o : Out Ledger} {S : State → Ledger → Type 0} → Says (product_made limit i one₁.0.value two₂.0.value two₂.0.state) o S
              → Says (combine limit w.room lw rt i w.s) o S
          combined h = says_as h (combine-one ∙ ap (λ o. bind o (on_two one₁.0)) two₂.1)

-- ---- what a call says under a limit, it says under the same one

pub taken_at : {l p l' p' : List ℕ} {k limit w : ℕ} {left : Ledger} {o : Out (Value × Ledger)} → k ≡ limit
    → ((g : Takeable l p k w left) → Says (take_use k g.room w g.s) o (TookRep g l' p')) → (g : Takeable l p limit w left) → Says (take_use limit g.room w g.s) o (TookRep g l' p')
taken_at {l} {p} {l'} {p'} {w = w} {left = left} {o = o} e = subst (λ (k : ℕ). (g : Takeable l p k w left) → Says (take_use k g.room w g.s) o (TookRep g l' p')) e

pub multiplied_at : {l p l' p' : List ℕ} {k limit i : ℕ} {a b : Value} {left : Ledger} {o : Out Ledger} → k ≡ limit
    → ((g : Multiplying l p k i a b left) → Says (product_made k i g.x g.y g.s) o (Stands g.count g.room l' p'))
    → (g : Multiplying l p limit i a b left) → Says (product_made limit i g.x g.y g.s) o (Stands g.count g.room l' p')
multiplied_at {l} {p} {l'} {p'} {i = i} {a = a} {b = b} {left = left} {o = o} e =
    subst (λ (k : ℕ). (g : Multiplying l p k i a b left) → Says (product_made k i g.x g.y g.s) o (Stands g.count g.room l' p')) e

-- ---- their product

module _ {l p : List ℕ} {limit i : ℕ} {a b : Value} {left : Ledger} (g : Multiplying l p limit i a b left) where
  pub work_fits : left.work ≤ limit
  work_fits = omega (arith, g.rep.work_is, g.paid)

  pub small₁ : a.phase < 4
  small₁ = omega (arith, g.first.phase_is, phase_number-small g.x.phase)

  pub small₂ : b.phase < 4
  small₂ = omega (arith, g.second.phase_is, phase_number-small g.y.phase)

  pub sum_few : left.spare + (a.count + b.count) < 65536
  sum_few = omega (arith, g.first.count_is, g.second.count_is, g.in_hand, g.rep.balance, g.few)

  pub words_long : 4 * i + 3 < length l
  words_long = omega (arith, g.rep.scratch.long, g.low)

  counts_are : {small : ℕ} → small ≡ min a.count b.count → small ≡ min (size g.x) (size g.y)
  counts_are e = e ∙ ap₂ min g.first.count_is g.second.count_is

  pub dear : {B : Type 0} {S : State → B → Type 0} {small : ℕ} → small ≡ min a.count b.count → limit - left.work < small
      → Says (product_made limit i g.x g.y g.s) (refused ExpansionLimit) S
  dear sm lt = rw (lt-leb (g.s.work + min (size g.x) (size g.y)) limit (omega (arith, work_fits, g.rep.work_is, counts_are sm))) (record { says = refl })

  abbrev pub operands : Operands p left.free a.head a.count b.head b.count
  operands = record {
    who = g.who;
    ta = 0;
    tb = 1;
    tr = i + 2;
    a_b = λ q. omega arith;
    a_r = λ q. omega arith;
    b_r = λ q. omega arith;
    fa = g.x.factors;
    fb = g.y.factors;
    n = left.spare;
    chain_a = g.first.chain;
    chain_b = g.second.chain;
    freed = g.rep.freed;
    count_a = g.first.count_is;
    count_b = g.second.count_is;
    few = omega (arith, sum_few);
  }

  module _ {p' : List ℕ} {head many turn free : ℕ} (m : Merged operands p' head many turn free) where
    pub head_low : head < 65536
    head_low = chain_low p' m.who' (i + 2) 0 head (merge g.x.factors g.y.factors).factors m.chain

    pub small₃ : turn < 4
    small₃ = omega (arith, m.phase_is, phase_number-small (merge g.x.factors g.y.factors).phase)

    pub count_fits : many ≤ left.spare + (a.count + b.count)
    count_fits = omega (arith, m.returned)

    pub few₃ : many ≤ 256
    few₃ = omega (arith, m.count_is, g.product_few)

    pub made : {l' : List ℕ} {small phase : ℕ} → small ≡ min a.count b.count → small ≤ limit - left.work → phase ≡ ((a.phase + b.phase) % 4 + turn) % 4
        → l' ≡ set l (4 * i + 2) (value_word head many phase)
        → Says (product_made limit i g.x g.y g.s) (fine (record { free = free; spare = left.spare + (a.count + b.count) - many; work = left.work + small })) (Stands g.count g.room l' p')
    made {l'} {small} {phase} sm le ph e =
        rw (e, le-leb (g.s.work + min (size g.x) (size g.y)) limit (omega (arith, work_fits, g.rep.work_is, counts_are sm))) (record {
          says = record {
            who = m.who';
            rep = finish_rep g.rep i v (value_word head many phase) _ (g.s.work + min (size g.x) (size g.y))
                (g.s.held - (size g.x + size g.y) + size v) g.low
                (marks_word v head many phase few₃ low-phase m.count_is phase-is)
                (λ k h fs ne c. m.kept (k + 2) 0 h fs (λ q. omega arith) (λ q. omega arith) (λ q. ne (omega arith)) c)
                (subst (λ (z : ℕ). Chain p' m.who' (i + 2) 0 z v.factors) (sym (value_word-head head many phase few₃ low-phase)) m.chain) (subst (λ (z : ℕ). Free p' m.who' free z) n-is m.freed)
                (omega (arith, m.returned, m.count_is, g.in_hand, g.rep.balance, g.first.count_is, g.second.count_is))
                (omega (arith, g.rep.work_is, counts_are sm));
          };
        })
      where
        v : Sparse
        v = multiply g.x g.y

        low-phase : phase < 4
        low-phase = omega arith

        n-is : m.n' ≡ left.spare + (a.count + b.count) - many
        n-is = omega (arith, m.returned)

        phase-is : phase ≡ phase_number (g.x.phase ⊕ g.y.phase ⊕ (merge g.x.factors g.y.factors).phase)
        phase-is = ph ∙ word_sum ((a.phase + b.phase) % 4) turn (g.x.phase ⊕ g.y.phase) (merge g.x.factors g.y.factors).phase
            (word_sum a.phase b.phase g.x.phase g.y.phase g.first.phase_is g.second.phase_is) m.phase_is

-- ---- one factor

module _ {l p : List ℕ} {i : ℕ} {left : Ledger} (g : Making l p i left) (q : ℕ) (a : Pauli) where
  pub no_room : {B : Type 0} {S : State → B → Type 0} → left.spare ≡ 0 → Says (factor_made g.room i q a g.s) (refused NoPool) S
  no_room z = rw (lt-leb (g.s.held + 1) g.room (omega (arith, g.rep.balance))) (record { says = refl })

  abbrev pub lender : (left.spare ≡ 0 → ⊥) → Lender p left.free
  lender ne =
      let e : left.spare ≡ suc (left.spare - 1) = omega arith in
      record { who = g.who; tr = i + 2; n = left.spare - 1; freed = subst (λ (k : ℕ). Free p g.who left.free k) e g.rep.freed }

  pub single_made : {l' p' : List ℕ} {head free : ℕ} (ne : left.spare ≡ 0 → ⊥) → Lent (lender ne) (factor q a) p' head free → l' ≡ set l (4 * i + 2) (value_word head 1 0)
      → Says (factor_made g.room i q a g.s) (fine (record { free = free; spare = left.spare - 1; work = left.work })) (Stands g.count g.room l' p')
  single_made {l'} {p'} {head} {free} ne m e =
      rw (e, le-leb (g.s.held + 1) g.room (omega (arith, g.rep.balance))) (record {
        says = record {
          who = m.who';
          rep = finish_rep g.rep i (one q a) (value_word head 1 0) _ g.s.work (g.s.held + 1 - 1 + 1) g.low (marks_word (one q a) head 1 0 (omega arith) (omega arith) refl refl)
              (λ k h fs nk c. m.kept (k + 2) 0 h fs (λ q. nk (omega arith)) c)
              (subst (λ (x : ℕ). Chain p' m.who' (i + 2) 0 x (factor q a ∷ [])) (sym (value_word-head head 1 0 (omega arith) (omega arith))) m.chain) m.freed (omega (arith, g.rep.balance))
              g.rep.work_is;
        };
      })
