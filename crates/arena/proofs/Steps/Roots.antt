-- Roots counted, shown and released, in the words; and one root walked.
use mathlib.Core.Path.{◌≡◌, refl, ap, sym, ◌∙◌, subst}
use mathlib.Core.Bool.{Bool, true, false, cond}
use mathlib.Core.List.{List, [], ◌∷◌}
use Prim.Native.Nat.{ℕ, zero, suc, ◌+◌, ◌*◌, ◌-◌, ◌%◌, ◌≤◌, ◌<◌}
use native.Mathlib.Omega.{arith}
use borrow.Author.Tests.{le-leb, lt-leb, eq-eqb, ne_eqb}
use lib.Dec.{eqb}
use lib.ListN.{length, get_or, replicate, length-replicate}
use Rattle.pauli.specs.Letters.{power, phase_number, ◌⊕◌}
use Rattle.pauli.specs.Rows.{Row}
use Rattle.arena.specs.Errors.{PbcError, ExpansionLimit}
use Rattle.arena.specs.References.{node_in, phase_in}
use Rattle.arena.specs.Nodes.{PauliNode, Product, node_at, values, image}
use Rattle.arena.specs.Sparse.{Sparse, turned, size, dense}
use Rattle.arena.specs.Walk.{Out, fine, refused, bind, update, State, Walked, root_uses, worked, charge, less, give_back, release, eval, show_roots, walk_begin, walk_nodes}
use Rattle.arena.specs.Pool.{Who, spare, Chain, Free}
use Rattle.arena.specs.PoolSteps.{AllFree, Holding, GivenBack}
use Rattle.arena.specs.Code.Results.{Ledger, Value, Says}
use Rattle.arena.specs.Code.WalkWords.{Inv, none, kept, uses_at, with_use, value_at, value_named, Marks, ValuesKept, Counting, CountedUp, Rep, Stands, Walking, Rooted, RootReady, TurnIs, Settled, Showing}
use Rattle.arena.specs.Code.Roots.{Rootable, tally_of, start_of, Begun, show_root, RootShown, Releasable, Released}
use Rattle.arena.proofs.Walk.Outcomes.{Post, post-bind, post_each, post-fine, charge-post, bind_assoc, update_same}
use Rattle.arena.proofs.DecodedNodes.{Fits, node_fits}
use Rattle.arena.proofs.Walk.Bounds.{roots_few}
use Rattle.arena.proofs.Walk.Sums.{sum-at}
use Rattle.arena.proofs.Walk.Evaluates.{Good, eval-post, eval-children}
use Rattle.arena.proofs.Walk.Invariant.{inv-worked}
use Rattle.arena.proofs.Walk.Means.{root_used, begin_inv}
use Rattle.arena.proofs.Chains.Letters.{number-power}
use Rattle.arena.proofs.Steps.Scratch.{length-use, use_value}
use Rattle.arena.proofs.Steps.Counting.{uses_plus}
use Rattle.arena.proofs.Steps.Saying.{said-fine, says_as, says_on, says_post, refuses_on, says-fine, says-refused}
use Rattle.arena.proofs.Steps.Moves.{word_sum, less_rep}
use Rattle.arena.specs.Limits.{cap_of}

pub zero-at : (n k : ℕ) → ◌≡◌ {A = ℕ} (get_or (replicate n 0) k 0) 0
zero-at zero k = refl
zero-at (suc n) zero = refl
zero-at (suc n) (suc k) = zero-at n k

-- ---- charges

pub charge-dear : (limit amount : ℕ) (s : State) → limit < s.work + amount → charge limit amount s ≡ refused ExpansionLimit
charge-dear limit amount s h = rw (lt-leb (s.work + amount) limit h)

pub charge-paid : (limit amount : ℕ) (s : State) → s.work + amount ≤ limit → charge limit amount s ≡ fine (worked amount s)
charge-paid limit amount s h = rw (le-leb (s.work + amount) limit h)

-- ---- the start

module _ {words l : List ℕ} {count roots : ℕ} (g : Rootable words l count roots) where
  abbrev pub counting : Counting words l count
  counting = record {
    n = g.n;
    u = root_uses g.ws;
    most = 65536;
    uses = g.uses;
    long = g.long;
    well = g.well;
    nodes_long = g.nodes_long;
    nodes_few = g.nodes_few;
    few = λ j. omega (arith, roots_few g.ws j, g.many, g.roots_few);
    most_low = omega arith;
  }

  abbrev node : ℕ → PauliNode
  node = node_at g.n words

  module _ {l' : List ℕ} {reached : ℕ} (cu : CountedUp counting l' reached) (mk : ValuesKept l l') (len : length l' ≡ length l) (limit : ℕ) where
    pub begin_dear : {B : Type 0} {S : State → B → Type 0} → limit < roots + reached → Says (start_of limit (node_at g.n words) count g.ws) (refused ExpansionLimit) S
    begin_dear h = says-refused (charge-dear limit (length g.ws + (tally_of node count g.ws).reached) (walk_begin (tally_of node count g.ws)) (omega (arith, cu.reached_is, g.many)))

    pub begun : {p p' : List ℕ} {free have : ℕ} → AllFree p p' free → have ≡ cap_of (length p) - 1 → roots + reached ≤ limit
        → Says (start_of limit (node_at g.n words) count g.ws) (fine (record { free = free; spare = have; work = roots + reached })) (Begun g limit (cap_of (length p) - 1) l' p')
    begun {p} {p'} {free} {have} af have-is h =
        says-fine (charge-paid limit (length g.ws + (tally_of node count g.ws).reached) (walk_begin (tally_of node count g.ws)) (omega (arith, cu.reached_is, g.many))) (record {
          who = spare;
          rep = record {
            scratch = record { long = omega (arith, g.long, len); uses_are = cu.uses; marks_are = λ j lj. mk.same j ∙ g.blank j };
            chains = λ j lj d u. let z : ◌≡◌ {A = ℕ} 0 1 = cc in absurd (omega arith);
            freed = subst (λ (k : ℕ). Free p' spare free k) (sym have-is) af.freed;
            balance = omega arith;
            work_is = omega (arith, cu.reached_is, g.many);
          };
          inv = begin_inv limit (cap_of (length p) - 1) g.n count (node_at g.n words) (node_fits g.n words) g.ws (length g.ws + (tally_of node count g.ws).reached) (omega (arith, cu.reached_is, g.many));
        })

-- the walk at rest after its start
abbrev pub resting : {words l l' p' : List ℕ} {count roots limit room : ℕ} {left : Ledger} {t : State} (g : Rootable words l count roots) → room < 65536 → Begun g limit room l' p' t left
    → Walking words l' p' count limit left
resting {words} {l} {l'} {p'} {count} {roots} {limit} {room} {left} {t} g few b = record {
  n = g.n;
  room = room;
  total = (tally_of (node_at g.n words) count g.ws).uses;
  rest = root_uses g.ws;
  who = b.who;
  s = t;
  rep = b.rep;
  inv = b.inv;
  well = g.well;
  qubits_few = g.qubits_few;
  few = few;
  nodes_few = g.nodes_few;
  nodes_long = g.nodes_long;
}

-- ---- a root shown

module _ (w : ℕ) {words l p : List ℕ} {count limit : ℕ} {left : Ledger} (g : Rooted words l p count limit (node_in w) left) where
  abbrev pub shown_in : Out State
  shown_in = show_root limit g.at.room (node_at g.at.n words) count (node_in w) g.at.s

  module _ {l' p' : List ℕ} {y : Out Ledger}
      (o : Says (eval limit g.at.room (node_at g.at.n words) count (node_in w) g.at.s) y (Stands count g.at.room l' p')) where
    abbrev charged : State → Out State
    charged t = charge limit (size (t.value (node_in w))) t

    pub root-refused : {B : Type 0} {S : State → B → Type 0} {e : PbcError} → y ≡ refused e → Says shown_in (refused e) S
    root-refused q = refuses_on o charged q

    module _ {rest : Ledger} (z : y ≡ fine rest) where
      abbrev pub x : (t : State) × (eval limit g.at.room (node_at g.at.n words) count (node_in w) g.at.s ≡ fine t) × Stands count g.at.room l' p' t rest
      x = said-fine o z

      good : Good limit g.at.room g.at.n count (node_at g.at.n words) (node_fits g.at.n words) g.at.total g.at.rest (node_in w) g.at.s x.0
      good = post-fine (Good limit g.at.room g.at.n count (node_at g.at.n words) (node_fits g.at.n words) g.at.total g.at.rest (node_in w) g.at.s) x.1
          (eval-post limit g.at.room g.at.n count (node_at g.at.n words) (node_fits g.at.n words) g.at.total g.at.rest count (node_in w) g.at.s g.low g.low g.used g.at.inv)

      abbrev pub v : Sparse
      v = x.0.value (node_in w)

      pub work_fits : rest.work ≤ limit
      work_fits = omega (arith, x.2.rep.work_is, good.0.paid)

      mark_is : Marks true v (value_at l' (node_in w))
      mark_is = subst (λ b. Marks b v (value_at l' (node_in w))) good.1.marked (x.2.rep.scratch.marks_are (node_in w) g.low)

      used_still : 0 < x.0.uses (node_in w)
      used_still = omega (arith, good.1.uses_from (node_in w) (omega arith), g.used)

      module _ {k : Value} (k-is : k ≡ value_named l' w) where
        size_is : k.count ≡ size v
        size_is = ap (λ (q : Value). q.count) k-is ∙ mark_is.1

        after : shown_in ≡ charged x.0
        after = ap (λ q. bind q charged) x.1

        pub too_high : {B : Type 0} {S : State → B → Type 0} → limit - rest.work < k.count → Says shown_in (refused ExpansionLimit) S
        too_high lt = says-refused (after ∙ charge-dear limit (size v) x.0 (omega (arith, x.2.rep.work_is, work_fits, size_is)))

        pub root_shown : k.count ≤ limit - rest.work
            → Says shown_in (fine (k, record { free = rest.free; spare = rest.spare; work = rest.work + k.count })) (RootShown w g l' p')
        root_shown le = says-fine (after ∙ charge-paid limit (size v) x.0 (omega (arith, x.2.rep.work_is, work_fits, size_is))) (record {
          who = x.2.who;
          rep = record {
            scratch = record { long = x.2.rep.scratch.long; uses_are = x.2.rep.scratch.uses_are; marks_are = x.2.rep.scratch.marks_are };
            chains = x.2.rep.chains;
            freed = x.2.rep.freed;
            balance = x.2.rep.balance;
            work_is = omega (arith, x.2.rep.work_is, size_is);
          };
          inv = inv-worked limit g.at.room g.at.n count (node_at g.at.n words) g.at.total g.at.rest none 0 (size v) x.0 (omega (arith, x.2.rep.work_is, work_fits, size_is)) good.0;
          done_is = good.1.marked;
          used = used_still;
          value = record {
            chain = subst (λ (q : Value). Chain p' x.2.who (node_in w + 2) 0 q.head v.factors) (sym k-is) (x.2.rep.chains (node_in w) g.low good.1.marked used_still);
            count_is = size_is;
            phase_is = ap (λ (q : Value). q.phase) k-is ∙ word_sum (w % 4) _ (power (w % 4)) v.phase (sym (number-power (w % 4) (omega arith))) mark_is.2;
          };
        })

-- what is said of a root among the same nodes, under the same limit
pub same_walk : {ws words : List ℕ} {m count k limit : ℕ} (P : List ℕ → ℕ → ℕ → Type 0) → ws ≡ words → m ≡ count → k ≡ limit → P ws m k → P words count limit
same_walk {ws} {words} {m} {count} {k} {limit} P a b c h = subst (λ (us : List ℕ). P us count limit) a (subst (λ (n : ℕ). P ws n limit) b (subst (λ (n : ℕ). P ws m n) c h))

pub shown_at : {ws words l p l' p' : List ℕ} {m count k limit w : ℕ} {left : Ledger} {o : Out (Value × Ledger)} → ws ≡ words → m ≡ count → k ≡ limit
    → ((g : Rooted ws l p m k (node_in w) left) → Says (show_root k g.at.room (node_at g.at.n ws) m (node_in w) g.at.s) o (RootShown w g l' p'))
    → (g : Rooted words l p count limit (node_in w) left) → Says (show_root limit g.at.room (node_at g.at.n words) count (node_in w) g.at.s) o (RootShown w g l' p')
shown_at {l = l} {p} {l'} {p'} {w = w} {left = left} {o = o} =
    same_walk (λ us n j. (g : Rooted us l p n j (node_in w) left) → Says (show_root j g.at.room (node_at g.at.n us) n (node_in w) g.at.s) o (RootShown w g l' p'))

-- ---- a root released

kept-some : (b : Bool) (u k : ℕ) → b ≡ true → 0 < u → kept b u k ≡ k
kept-some true zero k e h = absurd (omega arith)
kept-some true (suc u) k e h = refl
kept-some false u k e h = let z : ◌≡◌ {A = ℕ} 0 1 = cc in absurd (omega arith)

-- what a root holds is among the records held
pub held_some : (limit room n count : ℕ) (node : ℕ → PauliNode) (total rest : ℕ → ℕ) (s : State) (j : ℕ) → Inv limit room n count node total rest none 0 s → j < count → s.done j ≡ true → 0 < s.uses j
    → size (s.value j) ≤ s.held
held_some limit room n count node total rest s j inv lj d u =
    omega (arith, inv.holds, sum-at count (λ i. kept (s.done i) (s.uses i) (size (s.value i))) j lj, kept-some (s.done j) (s.uses j) (size (s.value j)) d u)

module _ {l p : List ℕ} {j : ℕ} {v : Value} {left : Ledger} (g : Releasable l p j v left) {u : ℕ} (u-is : u ≡ uses_at l j) where
  uses_is : u ≡ g.s.uses j
  uses_is = u-is ∙ g.rep.scratch.uses_are j g.low

  pub release-some : 1 ≤ u
  release-some = omega (arith, uses_is, g.used)

  pub release-more : {l' : List ℕ} → (u ≡ 1 → ⊥) → l' ≡ with_use l j (u - 1) → Released g l' p left
  release-more {l'} ne e = record {
    who = g.who;
    rep = rw (e, ne_eqb (g.s.uses j) 1 (λ q. ne (uses_is ∙ q)))
        (less_rep g.rep j u left g.s.work g.s.held g.low uses_is (λ k h fs used c. c) g.used g.rep.freed g.rep.balance g.rep.work_is);
  }

  abbrev pub holding : Holding p left.free v.head v.count
  holding = record {
    who = g.who;
    ta = j + 2;
    fs = (g.s.value j).factors;
    n = left.spare;
    chain = g.chain;
    freed = g.rep.freed;
    count_is = g.count_is;
  }

  pub release-last : {l' p' : List ℕ} {free : ℕ} → u ≡ 1 → l' ≡ with_use l j (u - 1) → GivenBack holding p' free → Released g l' p' (record { free = free; spare = left.spare + v.count; work = left.work })
  release-last {l'} {p'} {free} one e m =
      let sum : v.count + left.spare ≡ left.spare + v.count = omega arith in
      record {
        who = m.who';
        rep = rw (e, eq-eqb (g.s.uses j) 1 (sym uses_is ∙ one))
            (less_rep g.rep j u _ g.s.work (g.s.held - size (g.s.value j)) g.low uses_is
            (λ k h fs used c. m.kept (k + 2) 0 h fs (λ q. other k used q) c) g.used (subst (λ (n : ℕ). Free p' m.who' free n) sum m.freed) (omega (arith, g.rep.balance, g.count_is, g.holds))
            g.rep.work_is);
      }
    where
      other : (k : ℕ) → 0 < update g.s.uses j (g.s.uses j - 1) k → k + 2 ≡ j + 2 → ⊥
      other k h eq =
          let q : k ≡ j = omega arith in
          let z : 0 < update g.s.uses j (g.s.uses j - 1) j = subst (λ (i : ℕ). 0 < update g.s.uses j (g.s.uses j - 1) i) q h in
          omega (arith, update_same g.s.uses j (g.s.uses j - 1), z, uses_is)

-- the fields that a shown root brings to its release
abbrev pub releasable : (w : ℕ) {words l p l' p' : List ℕ} {count limit : ℕ} {left : Ledger} {v : Value} {rest : Ledger} (g : Rooted words l p count limit (node_in w) left) {t : State}
    → RootShown w g l' p' t (v, rest) → Releasable l' p' (node_in w) v rest
releasable w {words} {l} {p} {l'} {p'} {count} {limit} g {t} r = record {
  count = count;
  room = g.at.room;
  who = r.who;
  s = t;
  rep = r.rep;
  low = g.low;
  nodes_few = g.at.nodes_few;
  few = g.at.few;
  used = r.used;
  holds = held_some limit g.at.room g.at.n count (node_at g.at.n words) g.at.total g.at.rest t (node_in w) r.inv g.low r.done_is r.used;
  chain = r.value.chain;
  count_is = r.value.count_is;
}

-- ---- one root

pub release-work : (j : ℕ) (s : State) → (release j s).work ≡ s.work
release-work j s = go (eqb (s.uses j) 1)
  where
    go : (b : Bool) → (cond b (give_back (size (s.value j)) (less j s)) (less j s)).work ≡ s.work
    go true = refl
    go false = refl

-- showing the roots is showing the first, then the others
pub show_first : (limit room : ℕ) (node : ℕ → PauliNode) (count w : ℕ) (ws : List ℕ) (s : State) → show_roots limit room node count (w ∷ ws) s
    ≡ bind (show_root limit room node count (node_in w) s) (λ t.
    bind (show_roots limit room node count ws (release (node_in w) t)) (λ r.
    fine (record { shown = turned (phase_in w) (t.value (node_in w)) ∷ r.shown; state = r.state })))
show_first limit room node count w ws s = sym (bind_assoc (eval limit room node count (node_in w) s) (λ t. charge limit (size (t.value (node_in w))) t) (λ t.
    bind (show_roots limit room node count ws (release (node_in w) t)) (λ r.
    fine (record { shown = turned (phase_in w) (t.value (node_in w)) ∷ r.shown; state = r.state }))))

-- the scratch gives the word of a done node the phase of what it stands for
turn_is : (limit room n count : ℕ) (words : List ℕ) (total rest : ℕ → ℕ) {l p : List ℕ} {left : Ledger} {who : Who} {t : State} → Rep count room l p left who t
    → Inv limit room n count (node_at n words) total rest none 0 t → (v : ℕ) → node_in v < count → t.done (node_in v) ≡ true → TurnIs n count words l v
unfolding image values dense
turn_is limit room n count words total rest {l} {t = t} rep inv v low d =
    let mark = subst (λ b. Marks b (t.value (node_in v)) (value_at l (node_in v))) d (rep.scratch.marks_are (node_in v) low) in
    word_sum (v % 4) _ (power (v % 4)) (t.value (node_in v)).phase (sym (number-power (v % 4) (omega arith))) mark.2
    ∙ ap (λ (P : Row). phase_number (power (v % 4) ⊕ P.phase)) (inv.right (node_in v) low d).means

-- two words of which the node i is the product
abbrev FactorsOf : ℕ → List ℕ → ℕ → Type 0
FactorsOf n words i = (a : ℕ) × (b : ℕ) × (node_at n words i ≡ Product a b)

module _ {words l : List ℕ} {count w : ℕ} (g : RootReady words l count w) {l₁ : List ℕ} (e₁ : l₁ ≡ replicate (length l) 0) where
  pub long₁ : 4 * count ≤ length l₁
  long₁ = rw (e₁, length-replicate) g.long

  pub zeros : (k : ℕ) → get_or l₁ k 0 ≡ 0
  zeros k = rw e₁ (zero-at (length l) k)

  pub add_fits : (4 * node_in w + 1 < length l₁) × (uses_at l₁ (node_in w) < 18446744073709551615)
  add_fits = (omega (arith, long₁, g.named), omega (arith, zeros (4 * node_in w), zeros (4 * node_in w + 1)))

  module _ {l₂ : List ℕ} (e₂ : l₂ ≡ with_use l₁ (node_in w) (uses_at l₁ (node_in w) + 1)) where
    abbrev pub rootable : Rootable words l₂ count 1
    rootable = record {
      n = g.n;
      ws = w ∷ [];
      many = refl;
      roots_few = omega arith;
      uses = uses_plus count l₁ l₂ (λ j. 0) (node_in w) g.named long₁ (λ j lj. omega (arith, zeros (4 * j), zeros (4 * j + 1))) e₂;
      blank = λ k. rw e₂ (use_value l₁ (node_in w) (uses_at l₁ (node_in w) + 1) k ∙ zeros (4 * k + 2));
      long = omega (arith, ap length e₂ ∙ length-use l₁ (node_in w) (uses_at l₁ (node_in w) + 1), long₁);
      well = g.well;
      qubits_few = g.qubits_few;
      nodes_long = g.nodes_long;
      nodes_few = g.nodes_few;
    }

    module _ {limit : ℕ} (p : List ℕ) {l₃ p₁ : List ℕ} {y : Out Ledger} (b : Says (start_of limit (node_at g.n words) count (w ∷ [])) y (Begun rootable limit (cap_of (length p) - 1) l₃ p₁)) where
      abbrev showing : State → Out Walked
      showing s = show_roots limit (cap_of (length p) - 1) (node_at g.n words) count (w ∷ []) s

      pub walk_refused : {B : Type 0} {S : Walked → B → Type 0} {e : PbcError} → y ≡ refused e → Says (walk_nodes limit (cap_of (length p) - 1) (node_at g.n words) count (w ∷ [])) (refused e) S
      walk_refused q = refuses_on b showing q

      module _ {left : Ledger} (z : y ≡ fine left) where
        abbrev pub begun_at : (t : State) × (start_of limit (node_at g.n words) count (w ∷ []) ≡ fine t) × Begun rootable limit (cap_of (length p) - 1) l₃ p₁ t left
        begun_at = said-fine b z

        pub room_few : cap_of (length p) - 1 < 65536
        room_few = omega arith

        abbrev pub rooted : Rooted words l₃ p₁ count limit (node_in w) left
        rooted = record {
          at = resting rootable room_few begun_at.2;
          low = g.named;
          used = root_used limit (cap_of (length p) - 1) g.n count (node_at g.n words) (node_fits g.n words) (tally_of (node_at g.n words) count (w ∷ [])).uses w [] begun_at.0 begun_at.2.inv;
        }

        abbrev shown_of : State → Walked
        shown_of t = record { shown = turned (phase_in w) (t.value (node_in w)) ∷ []; state = release (node_in w) t }

        -- nothing is done before the root is
        fresh : (j : ℕ) → begun_at.0.done j ≡ false
        fresh j = post-fine (λ t. t.done j ≡ false) begun_at.1
            (charge-post limit (length (w ∷ []) + (tally_of (node_at g.n words) count (w ∷ [])).reached) (walk_begin (tally_of (node_at g.n words) count (w ∷ []))) (λ t. t.done j ≡ false) refl)

        abbrev FactorDone : FactorsOf g.n words (node_in w) → State → Type 0
        FactorDone k t = (t.done (node_in k.0) ≡ true) × (t.done (node_in k.1) ≡ true)

        factors_done : (k : FactorsOf g.n words (node_in w)) → Post (show_root limit (cap_of (length p) - 1) (node_at g.n words) count (node_in w) begun_at.0) (FactorDone k)
        factors_done k = post-bind (eval limit (cap_of (length p) - 1) (node_at g.n words) count (node_in w) begun_at.0) _ (FactorDone k) (FactorDone k)
            (eval-children limit (cap_of (length p) - 1) g.n count (node_at g.n words) (node_fits g.n words) (tally_of (node_at g.n words) count (w ∷ [])).uses (root_uses (w ∷ []))
            count (node_in w) k.0 k.1 begun_at.0 g.named g.named rooted.used (fresh (node_in w)) k.2 begun_at.2.inv)
            (λ t d. charge-post limit (size (t.value (node_in w))) t (FactorDone k) d)

        settled_at : {l₄ p₂ : List ℕ} {t : State} {q : Value × Ledger} → RootShown w rooted l₄ p₂ t q → ((k : FactorsOf g.n words (node_in w)) → FactorDone k t)
            → Settled g.n count words l₄ (node_in w)
        settled_at {l₄} {t = t} s d = record {
          own = let at : node_in w ≡ node_in (4 * node_in w) = omega arith in turn (4 * node_in w) (omega (arith, g.named)) (subst (λ (j : ℕ). t.done j ≡ true) at s.done_is);
          factors = λ a b e.
              let old : (node_in a < node_in w) × (node_in b < node_in w) = subst (Fits g.n (node_in w)) e (node_fits g.n words (node_in w)) in
              (turn a (omega (arith, old.0, g.named)) (d (a, b, e)).0, turn b (omega (arith, old.1, g.named)) (d (a, b, e)).1);
        }
          where
            turn : (v : ℕ) → node_in v < count → t.done (node_in v) ≡ true → TurnIs g.n count words l₄ v
            turn = turn_is limit (cap_of (length p) - 1) g.n count words (tally_of (node_at g.n words) count (w ∷ [])).uses (root_uses (w ∷ [])) s.rep s.inv

        pub walk_shown : {l₄ p₂ : List ℕ} {o : Out (Value × Ledger)}
            → Says (show_root limit (cap_of (length p) - 1) (node_at g.n words) count (node_in w) begun_at.0) o (RootShown w rooted l₄ p₂)
            → Says (walk_nodes limit (cap_of (length p) - 1) (node_at g.n words) count (w ∷ [])) o (Showing g.n count words w l₄ p₂)
        walk_shown {l₄} {p₂} r =
            says_as (says_on (says_post r (λ t. (k : FactorsOf g.n words (node_in w)) → FactorDone k t) (post_each (show_root limit (cap_of (length p) - 1) (node_at g.n words) count (node_in w) begun_at.0) FactorDone factors_done)) shown_of (Showing g.n count words w l₄ p₂) (λ t q s. record {
              x = turned (phase_in w) (t.value (node_in w));
              who = s.0.who;
              tag = node_in w + 2;
              shown_is = refl;
              value = s.0.value;
              work_is = s.0.rep.work_is ∙ sym (release-work (node_in w) t);
              settled = settled_at s.0 s.1;
            })) (ap (λ o. bind o showing) begun_at.1 ∙ show_first limit (cap_of (length p) - 1) (node_at g.n words) count w [] begun_at.0)
