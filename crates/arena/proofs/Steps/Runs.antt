-- The loop over the path: what holds at each turn, and that a turn keeps it.
use mathlib.Core.Path.{◌≡◌, refl, ap, sym, ◌∙◌, subst}
use mathlib.Core.List.{List, [], ◌∷◌}
use Prim.Native.Nat.{ℕ, suc, ◌+◌, ◌*◌, ◌-◌, ◌≤◌, ◌<◌}
use native.Mathlib.Nat.{mul-le-mul}
use native.Mathlib.Omega.{arith}
use lib.ListN.{length, get_or, set}
use lib.Seq.{get_or-set_same}
use Rattle.std.specs.Prelude.{Option, Some}
use Rattle.arena.specs.Nodes.{PauliNode, node_at}
use Rattle.arena.specs.Errors.{PbcError}
use Rattle.arena.specs.Walk.{Out, fine, refused, State, eval}
use Rattle.arena.specs.Code.Machine.{Spot, step_top}
use Rattle.arena.specs.Pool.{Who}
use Rattle.arena.specs.Code.Results.{Ledger, Says, top_of}
use Rattle.arena.specs.Code.WalkWords.{value_at, Marks, none, Inv, Trail, Wanted, Linked, Rep, Stands, Topped, Landed, Started, Rooted}
use Rattle.arena.proofs.Walk.Outcomes.{post-fine, bind-fine}
use Rattle.arena.proofs.DecodedNodes.{node_fits}
use Rattle.arena.proofs.Walk.MachineSteps.{resume, onward, resume-step, eval-done}
use Rattle.arena.proofs.Walk.MachineRuns.{Stepped, left as steps_left, undone, undone-few, step_trail, Sound, step_inv}
use Rattle.arena.proofs.Steps.Scratch.{marked, unmarked}
use Rattle.arena.proofs.Steps.Saying.{said-fine, said-refused, says-fine, says-refused}
use Rattle.arena.proofs.Steps.Path.{link_rep}

-- ---- no path takes more steps than the budget

left_few : (count top : ℕ) (s : State) → count ≤ 65536 → top ≤ count → undone count s * suc count + top ≤ 4295098368
left_few count top s h t =
    let a : undone count s ≤ 65536 = le count (undone-few count s) h in
    let b : suc count ≤ 65537 = omega arith in
    let m : undone count s * suc count ≤ 65536 * 65537 = mul-le-mul a b in
    omega arith
  where
    le : {a : ℕ} (b : ℕ) {c : ℕ} → a ≤ b → b ≤ c → a ≤ c
    le b x y = omega arith

-- ---- the path by its top

abbrev pub tail_of : List ℕ → List ℕ
tail_of [] = []
tail_of (i ∷ p) = p

path_is : (l : List ℕ) (top : ℕ) (p : List ℕ) → Linked l top p → {here : ℕ} → top ≡ suc here → p ≡ here ∷ tail_of p
path_is l top [] q e = absurd (omega (arith, q, e))
path_is l top (i ∷ p) q {here} e = let same : i ≡ here = omega (arith, q.0, e) in ap (λ (k : ℕ). k ∷ p) same

pub at_top : {t : Option ℕ} {here : ℕ} → t ≡ Some here → top_of t ≡ suc here
at_top e = ap top_of e ∙ omega arith

path-none : (l : List ℕ) (top : ℕ) (p : List ℕ) → Linked l top p → top ≡ 0 → p ≡ []
path-none l top [] q z = refl
path-none l top (i ∷ p) q z = absurd (omega (arith, q.0))

module _ {words l₀ p₀ : List ℕ} {count limit i : ℕ} {left₀ : Ledger} where
  abbrev pub result : Started words l₀ p₀ count limit i left₀ → Out State
  result g = eval limit g.at.room (node_at g.at.n words) count i g.at.s

-- at each turn: the words stand for a state, from which resuming the path gives what is asked
pub record Going {words l₀ p₀ : List ℕ} {count limit i : ℕ} {left₀ : Ledger} (g : Started words l₀ p₀ count limit i left₀) (l p : List ℕ) (left : Ledger) (top budget : ℕ) : Type 0 where
  pub path : List ℕ
  pub s : State
  pub who : Who
  pub rep : Rep count g.at.room l p left who s
  pub inv : Inv limit g.at.room g.at.n count (node_at g.at.n words) g.at.total g.at.rest none 0 s
  pub linked : Linked l top path
  pub trail : Trail count s 0 path
  pub wanted : Wanted s path
  pub same : resume limit g.at.room (node_at g.at.n words) count path s ≡ result g
  pub enough : steps_left count s path ≤ budget
  pub long : length l ≡ length l₀
  pub pool_long : length p ≡ length p₀

module _ {words l₀ p₀ : List ℕ} {count limit i : ℕ} {left₀ : Ledger} (g : Started words l₀ p₀ count limit i left₀) where
  abbrev node : ℕ → PauliNode
  node = node_at g.at.n words

  pub going_begin : {top : ℕ} → top ≡ i + 1 → Going g l₀ p₀ left₀ top 4295098368
  going_begin {top} e = record {
    path = i ∷ [];
    s = g.at.s;
    who = g.at.who;
    rep = g.at.rep;
    inv = g.at.inv;
    linked = (omega arith, g.ends);
    trail = (omega arith, g.low, g.not_done, tt);
    wanted = (g.used, tt);
    same = bind-fine (result g);
    enough = left_few count (suc i) g.at.s g.at.nodes_few g.low;
    long = refl;
    pool_long = refl;
  }

  module _ {l p : List ℕ} {left : Ledger} {top budget : ℕ} (v : Going g l p left top budget) where
    pub going_end : top ≡ 0 → Says (result g) (fine left) (Stands count g.at.room l p)
    going_end z = says-fine (sym v.same ∙ ap (λ q. resume limit g.at.room node count q v.s) (path-none l top v.path v.linked z)) (record { who = v.who; rep = v.rep })

    module _ {here : ℕ} (e : top ≡ suc here) where
      pub path_at : v.path ≡ here ∷ tail_of v.path
      path_at = path_is l top v.path v.linked e

      pub top_is : top ≡ suc here
      top_is = e

      abbrev pub topped : Topped words l p limit here left
      topped = record {
        count = count;
        at = record {
          n = g.at.n;
          room = g.at.room;
          total = g.at.total;
          rest = g.at.rest;
          who = v.who;
          s = v.s;
          rep = v.rep;
          inv = v.inv;
          well = g.at.well;
          qubits_few = g.at.qubits_few;
          few = g.at.few;
          nodes_few = g.at.nodes_few;
          nodes_long = g.at.nodes_long;
        };
        path = tail_of v.path;
        trail = subst (λ q. Trail count v.s 0 q) path_at v.trail;
        wanted = subst (λ q. Wanted v.s q) path_at v.wanted;
        linked = subst (λ (k : ℕ). Linked l k (here ∷ tail_of v.path)) top_is (subst (λ q. Linked l top q) path_at v.linked);
      }

      pub some_left : 1 ≤ budget
      some_left = omega (arith, v.enough, subst (λ q. 1 ≤ steps_left count v.s q) (sym path_at) (omega arith))

      module _ {l' p' : List ℕ} {y : Out (ℕ × Ledger)}
          (o : Says (step_top limit g.at.room (node_at g.at.n words) here (tail_of v.path) v.s) y (Landed count g.at.room l' p')) where
        resumed : resume limit g.at.room node count v.path v.s ≡ onward limit g.at.room g.at.n node (node_fits g.at.n words) count (step_top limit g.at.room node here (tail_of v.path) v.s)
        resumed = ap (λ q. resume limit g.at.room node count q v.s) path_at
            ∙ resume-step limit g.at.room g.at.n node (node_fits g.at.n words) count here (tail_of v.path) v.s topped.trail.1

        pub going-refused : {B : Type 0} {S : State → B → Type 0} {e : PbcError} → y ≡ refused e → Says (result g) (refused e) S
        going-refused q = says-refused (sym v.same ∙ resumed ∙ ap (onward limit g.at.room g.at.n node (node_fits g.at.n words) count) (said-refused o q))

        pub going_on : {top' : ℕ} {rest : Ledger} → y ≡ fine (top', rest) → length l' ≡ length l → length p' ≡ length p → Going g l' p' rest top' (budget - 1)
        going_on z el ep =
            let x = said-fine o z in
            let q : Spot = x.0 in
            let a : Stepped count (steps_left count v.s (here ∷ tail_of v.path)) q = post-fine (Stepped count (steps_left count v.s (here ∷ tail_of v.path))) x.1
            (step_trail limit g.at.room g.at.n count node (node_fits g.at.n words) here 0 (tail_of v.path) v.s topped.trail) in
            let b : Sound limit g.at.room g.at.n count node (node_fits g.at.n words) g.at.total g.at.rest q = post-fine (Sound limit g.at.room g.at.n count node (node_fits g.at.n words) g.at.total g.at.rest) x.1
            (step_inv limit g.at.room g.at.n count node (node_fits g.at.n words) g.at.total g.at.rest here 0 (tail_of v.path) v.s topped.trail topped.wanted v.inv) in
            record {
              path = q.path;
              s = q.state;
              who = x.2.stands.who;
              rep = x.2.stands.rep;
              inv = b.0;
              linked = x.2.linked;
              trail = a.trail;
              wanted = b.1;
              same = ap (onward limit g.at.room g.at.n node (node_fits g.at.n words) count) (sym x.1) ∙ sym resumed ∙ v.same;
              enough = omega (arith, a.fewer, subst (λ r. steps_left count v.s r ≤ budget) path_at v.enough);
              long = el ∙ v.long;
              pool_long = ep ∙ v.pool_long;
            }

-- what a step says of the same words under the same limit
pub stepped_at : {words ws l p l' p' : List ℕ} {limit k i : ℕ} {left : Ledger} {o : Out (ℕ × Ledger)} → ws ≡ words → k ≡ limit
    → ((g : Topped ws l p k i left) → Says (step_top k g.at.room (node_at g.at.n ws) i g.path g.at.s) o (Landed g.count g.at.room l' p'))
    → (g : Topped words l p limit i left) → Says (step_top limit g.at.room (node_at g.at.n words) i g.path g.at.s) o (Landed g.count g.at.room l' p')
stepped_at {words} {ws} {l} {p} {l'} {p'} {limit} {i = i} {left = left} {o = o} e f h =
    subst (λ (us : List ℕ). (g : Topped us l p limit i left) → Says (step_top limit g.at.room (node_at g.at.n us) i g.path g.at.s) o (Landed g.count g.at.room l' p')) e
    (subst (λ (k : ℕ). (g : Topped ws l p k i left) → Says (step_top k g.at.room (node_at g.at.n ws) i g.path g.at.s) o (Landed g.count g.at.room l' p')) f h)

-- ---- a root

module _ {words l p : List ℕ} {count limit i : ℕ} {left : Ledger} (g : Rooted words l p count limit i left) where
  pub root_room : 4 * i + 3 < length l
  root_room = omega (arith, g.at.rep.scratch.long, g.low)

  pub mark_is : Marks (g.at.s.done i) (g.at.s.value i) (value_at l i)
  mark_is = g.at.rep.scratch.marks_are i g.low

  pub root_done : {m : ℕ} → m ≡ value_at l i → (m ≡ 0 → ⊥) → Says (eval limit g.at.room (node_at g.at.n words) count i g.at.s) (fine left) (Stands count g.at.room l p)
  root_done m-is ne = says-fine (eval-done limit g.at.room (node_at g.at.n words) count i g.at.s (unmarked _ (g.at.s.value i) (value_at l i) mark_is (λ e. ne (m-is ∙ e))))
      (record { who = g.at.who; rep = g.at.rep })

  abbrev pub started : {m : ℕ} {l' : List ℕ} → m ≡ value_at l i → m ≡ 0 → l' ≡ set l (4 * i + 3) 0 → Started words l' p count limit i left
  started m-is z e = record {
    at = record {
      n = g.at.n;
      room = g.at.room;
      total = g.at.total;
      rest = g.at.rest;
      who = g.at.who;
      s = g.at.s;
      rep = rw e (link_rep i 0 g.at.rep);
      inv = g.at.inv;
      well = g.at.well;
      qubits_few = g.at.qubits_few;
      few = g.at.few;
      nodes_few = g.at.nodes_few;
      nodes_long = g.at.nodes_long;
    };
    low = g.low;
    used = g.used;
    not_done = marked _ (g.at.s.value i) (value_at l i) mark_is (sym m-is ∙ z);
    ends = ap (λ (k : List ℕ). get_or k (4 * i + 3) 0) e ∙ get_or-set_same l (4 * i + 3) 0 0 root_room;
  }
