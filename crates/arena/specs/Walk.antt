-- The walk (document 01, "Factor pool and work"): roots in turn, left child before right, the last use moves a value and an earlier one copies it,
-- with its charges and its two refusals: 17 above the limit, 18 above the room, 17 first within a step.
use Rattle.std.specs.Prelude.{Bool, true, false, cond, List, [], ◌∷◌, ℕ, zero, suc, ◌+◌, ◌-◌, ◌<◌, min, leb, eqb, length}
use Rattle.arena.specs.Errors.{PbcError, ExpansionLimit, NoPool}
use Rattle.arena.specs.References.{node_in, phase_in}
use Rattle.arena.specs.Nodes.{PauliNode, Identity, Single, Product, Malformed, node_at}
use Rattle.arena.specs.Sparse.{Sparse, empty, one, turned, size, multiply}

-- every root names a node below count
abbrev pub Named : ℕ → List ℕ → Type 0
Named count [] = Unit {0}
Named count (w ∷ ws) = (node_in w < count) × Named count ws

-- an answer, or a refusal
pub data Out (A : Type 0) : Type 0 where
  fine : A → Out A
  refused : PbcError → Out A

abbrev pub bind : {A B : Type 0} → Out A → (A → Out B) → Out B
bind (fine a) k = k a
bind (refused e) k = refused e

-- f, with v at i
abbrev pub update : {A : Type 0} → (ℕ → A) → ℕ → A → ℕ → A
update f i v j = cond (eqb j i) v (f j)

-- for each node its uses left, whether it is done, and its value; the work so far, and the factors held
pub record State : Type 0 where
  pub uses : ℕ → ℕ
  pub done : ℕ → Bool
  pub value : ℕ → Sparse
  pub work : ℕ
  pub held : ℕ

-- ---- uses: one for each root that names a node, and one for each child word of a reachable node

abbrev pub plus_one : ℕ → (ℕ → ℕ) → ℕ → ℕ
plus_one j u = update u j (suc (u j))

abbrev pub root_uses : List ℕ → ℕ → ℕ
root_uses [] = λ j. 0
root_uses (w ∷ ws) = plus_one (node_in w) (root_uses ws)

abbrev pub child_uses : PauliNode → (ℕ → ℕ) → ℕ → ℕ
child_uses Identity u = u
child_uses (Single q a) u = u
child_uses (Product l r) u = plus_one (node_in r) (plus_one (node_in l) u)
child_uses Malformed u = u

-- the uses of each node, and how many nodes are reachable
pub record Counted : Type 0 where
  pub uses : ℕ → ℕ
  pub reached : ℕ

abbrev pub one_more : Counted → Counted
one_more c = record { uses = c.uses; reached = suc c.reached }

-- a node with a use is reachable, and uses its children
abbrev pub scan_node : ℕ → PauliNode → ((ℕ → ℕ) → Counted) → (ℕ → ℕ) → Counted
scan_node zero nd below u = below u
scan_node (suc k) nd below u = one_more (below (child_uses nd u))

-- from node k - 1 down
abbrev pub scan : (ℕ → PauliNode) → ℕ → (ℕ → ℕ) → Counted
scan node zero u = record { uses = u; reached = 0 }
scan node (suc k) u = scan_node (u k) (node k) (λ v. scan node k v) u

-- ---- charges and records

abbrev pub worked : ℕ → State → State
worked amount s = record { uses = s.uses; done = s.done; value = s.value; work = s.work + amount; held = s.held }

abbrev pub lent : ℕ → State → State
lent k s = record { uses = s.uses; done = s.done; value = s.value; work = s.work; held = s.held + k }

-- amount more work
abbrev pub charge : ℕ → ℕ → State → Out State
charge limit amount s = cond (leb (s.work + amount) limit) (fine (worked amount s)) (refused ExpansionLimit)

-- k records more
abbrev pub lend : ℕ → ℕ → State → Out State
lend room k s = cond (leb (s.held + k) room) (fine (lent k s)) (refused NoPool)

-- one use of node j less
abbrev pub less : ℕ → State → State
less j s = record { uses = update s.uses j (s.uses j - 1); done = s.done; value = s.value; work = s.work; held = s.held }

-- node i has the value v: of the `hand` records that were in hand, those of v are still held
abbrev pub finish : ℕ → Sparse → ℕ → State → State
finish i v hand s =
    record { uses = s.uses; done = update s.done i true; value = update s.value i v; work = s.work; held = s.held - hand + size v }

-- k records are given back
abbrev pub give_back : ℕ → State → State
give_back k s = record { uses = s.uses; done = s.done; value = s.value; work = s.work; held = s.held - k }

-- a root is given up: with its last use its records are given back
abbrev pub release : ℕ → State → State
release j s = cond (eqb (s.uses j) 1) (give_back (size (s.value j)) (less j s)) (less j s)

-- nothing is done yet
abbrev pub walk_begin : Counted → State
walk_begin c = record { uses = c.uses; done = λ j. false; value = λ j. empty; work = 0; held = 0 }

-- a value in hand
pub record Taken : Type 0 where
  pub value : Sparse
  pub state : State

-- what was shown at each root
pub record Walked : Type 0 where
  pub shown : List Sparse
  pub state : State

module _ (limit room : ℕ) where
  -- the last use moves; an earlier one copies: charge, then lend
  abbrev pub take_as : Bool → Sparse → State → Out Taken
  take_as true v s = fine (record { value = v; state = s })
  take_as false v s = bind (charge limit (size v) s) (λ s. bind (lend room (size v) s) (λ s. fine (record { value = v; state = s })))

  -- one use of the node that the word names is consumed
  abbrev pub take_use : ℕ → State → Out Taken
  take_use w s = take_as (eqb (s.uses (node_in w)) 1) (turned (phase_in w) (s.value (node_in w))) (less (node_in w) s)

  -- both children are done: take left, take right, charge the smaller count, multiply
  abbrev pub combine : ℕ → ℕ → ℕ → State → Out State
  combine l r i s =
      bind (take_use l s) (λ a.
      bind (take_use r a.state) (λ b.
      bind (charge limit (min (size a.value) (size b.value)) b.state) (λ s.
      fine (finish i (multiply a.value b.value) (size a.value + size b.value) s))))

  -- a node that is not done; `rec` evaluates a child
  abbrev pub eval_node : PauliNode → (ℕ → State → Out State) → ℕ → State → Out State
  eval_node Identity rec i s = fine (finish i empty 0 s)
  eval_node (Single q a) rec i s = bind (lend room 1 s) (λ s. fine (finish i (one q a) 1 s))
  eval_node (Product l r) rec i s = bind (rec (node_in l) s) (λ s. bind (rec (node_in r) s) (λ s. combine l r i s))
  eval_node Malformed rec i s = fine (finish i empty 0 s)

  abbrev pub eval_unless : Bool → PauliNode → (ℕ → State → Out State) → ℕ → State → Out State
  eval_unless true nd rec i s = fine s
  eval_unless false nd rec i s = eval_node nd rec i s

  -- the first number bounds the depth: children have smaller indices, so anything above i serves
  abbrev pub eval : (ℕ → PauliNode) → ℕ → ℕ → State → Out State
  eval node zero i s = fine s
  eval node (suc f) i s = eval_unless (s.done i) (node i) (λ j t. eval node f j t) i s

  -- a root is evaluated, its factors are charged, it is shown, and one use is given up
  abbrev pub show_roots : (ℕ → PauliNode) → ℕ → List ℕ → State → Out Walked
  show_roots node depth [] s = fine (record { shown = []; state = s })
  show_roots node depth (w ∷ ws) s =
      bind (eval node depth (node_in w) s) (λ s.
      bind (charge limit (size (s.value (node_in w))) s) (λ s.
      bind (show_roots node depth ws (release (node_in w) s)) (λ r.
      fine (record { shown = turned (phase_in w) (s.value (node_in w)) ∷ r.shown; state = r.state }))))

  -- all roots, then all reachable nodes are charged before anything is evaluated
  abbrev pub walk_from : (ℕ → PauliNode) → ℕ → List ℕ → Counted → Out Walked
  walk_from node count roots c = bind (charge limit (length roots + c.reached) (walk_begin c)) (λ s. show_roots node count roots s)

  abbrev pub walk_nodes : (ℕ → PauliNode) → ℕ → List ℕ → Out Walked
  walk_nodes node count roots = walk_from node count roots (scan node count (root_uses roots))

-- what a walk answers: what is shown at each root, and the work
pub record Answer : Type 0 where
  pub shown : List Sparse
  pub work : ℕ

abbrev pub answer_of : Walked → Answer
answer_of r = record { shown = r.shown; work = r.state.work }

-- the walk of n qubits over the first `count` nodes in the words, from these roots, under a limit and with so many records to lend
unfoldable pub walk : (limit room n count : ℕ) → (words roots : List ℕ) → Out Answer
walk limit room n count words roots = bind (walk_nodes limit room (node_at n words) count roots) (λ r. fine (answer_of r))
