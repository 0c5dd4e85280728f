-- What the walk keeps true from step to step, and its state in words: four scratch words a node, and chains in the pool.
-- The functions of src/scratch.rt, materialize.rt, roots.rt, visit.rt, readers.rt, weights.rt and axes.rt that are not public ask and promise what is said here.
use Rattle.std.specs.Prelude.{◌≡◌, ◌≢◌, Bool, true, false, cond, List, [], ◌∷◌, ◌++◌, map, ℕ, zero, suc, ◌+◌, ◌*◌, ◌/◌, ◌%◌, ◌≤◌, ◌<◌, min, eqb, ltb, length, get_or, set, drop}
use Rattle.pauli.specs.Letters.{pauli_number, phase_number}
use Rattle.pauli.specs.Rows.{identity}
use Rattle.arena.specs.Types.{Pauli, I}
use Rattle.arena.specs.References.{node_in}
use Rattle.arena.specs.Nodes.{PauliNode, Identity, Single, Product, Malformed, node_at, rows_to, image}
use Rattle.arena.specs.Sparse.{Factor, Sparse, size, dense, spread, one, multiply}
use Rattle.arena.specs.Walk.{Out, fine, bind, State, Taken, child_uses, scan, Walked, charge, lend, finish}
use Rattle.arena.specs.Code.Machine.{Spot}
use Rattle.arena.specs.Pool.{Who, Chain, Free}
use Rattle.arena.specs.Code.Results.{Ledger, Value}

-- the qubits rise from lo on and stay below hi, and no letter is I
abbrev pub Rising : ℕ → ℕ → List Factor → Type 0
Rising lo hi [] = Unit {0}
Rising lo hi (f ∷ fs) = (lo ≤ f.qubit) × (f.qubit < hi) × (f.pauli ≢ I) × Rising (suc f.qubit) hi fs

abbrev pub Ordered : ℕ → Sparse → Type 0
Ordered n v = Rising 0 n v.factors

-- ---- the walk's invariant

-- f 0 + .. + f (k - 1)
abbrev pub sum : ℕ → (ℕ → ℕ) → ℕ
sum zero f = 0
sum (suc k) f = sum k f + f k

-- 1 if the word names j
abbrev pub edge : ℕ → ℕ → ℕ
edge w j = cond (eqb j (node_in w)) 1 0

-- how often the node names j
abbrev pub edges : PauliNode → ℕ → ℕ
edges Identity j = 0
edges (Single q a) j = 0
edges (Product l r) j = edge l j + edge r j
edges Malformed j = 0

-- k, owed by a node that is reachable (u uses in all) and not done
abbrev pub owed : Bool → ℕ → ℕ → ℕ
owed true u k = 0
owed false zero k = 0
owed false (suc u) k = k

-- the child words that name j, of reachable nodes that are not done
abbrev pub pend : ℕ → (ℕ → PauliNode) → (ℕ → ℕ) → (ℕ → Bool) → ℕ → ℕ
pend count node total done j = sum count (λ i. owed (done i) (total i) (edges (node i) j))

-- k, for a value that stands: done, and with a use left
abbrev pub kept : Bool → ℕ → ℕ → ℕ
kept true zero k = 0
kept true (suc u) k = k
kept false u k = 0

-- the factors of the values that stand
abbrev pub stand : ℕ → State → ℕ
stand count s = sum count (λ j. kept (s.done j) (s.uses j) (size (s.value j)))

abbrev pub none : ℕ → ℕ
none j = 0

-- v is a value of node j
pub record Right (n count : ℕ) (node : ℕ → PauliNode) (j : ℕ) (v : Sparse) : Type 0 where
  pub proper : Ordered n v
  pub means : dense n v ≡ get_or (rows_to n node count) j (identity n)

-- total: each node's uses in all. rest: each node's roots not yet shown. debt: the uses that the node in work has consumed. hand: the factors in hand.
-- So the uses left, with the debt, are the child words of reachable nodes not yet done and the roots not yet shown,
-- and the records held are the factors of the values that stand and those in hand.
pub record Inv (limit room n count : ℕ) (node : ℕ → PauliNode) (total : ℕ → ℕ) (rest debt : ℕ → ℕ) (hand : ℕ) (s : State) : Type 0 where
  pub right : (j : ℕ) → j < count → s.done j ≡ true → Right n count node j (s.value j)
  pub counts : (j : ℕ) → s.uses j + debt j ≡ pend count node total s.done j + rest j
  pub fewer : (j : ℕ) → s.uses j ≤ total j
  pub holds : s.held ≡ stand count s + hand
  pub within : s.held ≤ room
  pub paid : s.work ≤ limit

-- rising from lo on, below count, and not done
abbrev pub Trail : ℕ → State → ℕ → List ℕ → Type 0
Trail count s lo [] = Unit {0}
Trail count s lo (i ∷ p) = (lo ≤ i) × (i < count) × (s.done i ≡ false) × Trail count s (suc i) p

-- every node of the path has a use left
abbrev pub Wanted : State → List ℕ → Type 0
Wanted s [] = Unit {0}
Wanted s (i ∷ p) = (0 < s.uses i) × Wanted s p

abbrev pub scratch_at : ℕ → List ℕ → ℕ → ℕ
scratch_at c l i = get_or l (4 * i + c) 0

abbrev pub Linked : List ℕ → ℕ → List ℕ → Type 0
Linked l top [] = top ≡ 0
Linked l top (i ∷ p) = (top ≡ suc i) × Linked l (scratch_at 3 l i) p

-- ---- the scratch words of a node: its uses left in two, its value, its link

abbrev pub uses_at : List ℕ → ℕ → ℕ
uses_at l i = get_or l (4 * i) 0 + 4294967296 * get_or l (4 * i + 1) 0

abbrev pub with_use : List ℕ → ℕ → ℕ → List ℕ
with_use l i v = set (set l (4 * i) (v % 4294967296)) (4 * i + 1) (v / 4294967296)

abbrev pub value_at : List ℕ → ℕ → ℕ
value_at l i = scratch_at 2 l i

-- a value: the first record of its chain, the number of its factors, its phase
abbrev pub value_word : ℕ → ℕ → ℕ → ℕ
value_word head count phase = 1 + 2 * (phase + 4 * (count + 512 * head))

abbrev pub head_in : ℕ → ℕ
head_in w = w / 4096

abbrev pub count_in : ℕ → ℕ
count_in w = w / 8 % 512

abbrev pub turn_in : ℕ → ℕ
turn_in w = w / 2 % 4

-- the value of the node that the word w names, turned by the phase in w
abbrev pub value_named : List ℕ → ℕ → Value
value_named l w = record { head = head_in (value_at l (w / 4)); count = count_in (value_at l (w / 4)); phase = (w % 4 + turn_in (value_at l (w / 4))) % 4 }

-- 0 for a node that is not done; else its factors and its phase
abbrev pub Marks : Bool → Sparse → ℕ → Type 0
Marks false v w = w ≡ 0
Marks true v w = (0 < w) × (count_in w ≡ size v) × (turn_in w ≡ phase_number v.phase)

-- the uses and the values of the nodes below count
pub record Scratch (count : ℕ) (l : List ℕ) (s : State) : Type 0 where
  pub long : 4 * count ≤ length l
  pub uses_are : (j : ℕ) → j < count → uses_at l j ≡ s.uses j
  pub marks_are : (j : ℕ) → j < count → Marks (s.done j) (s.value j) (value_at l j)

-- the links are as they were
pub record LinksKept (l l' : List ℕ) : Type 0 where
  pub same : (k : ℕ) → scratch_at 3 l' k ≡ scratch_at 3 l k

-- the values are as they were
pub record ValuesKept (l l' : List ℕ) : Type 0 where
  pub same : (k : ℕ) → value_at l' k ≡ value_at l k

-- ---- counting uses

-- the counts after a node is looked at, which has m uses
abbrev pub visit : ℕ → PauliNode → (ℕ → ℕ) → ℕ → ℕ
visit zero nd u = u
visit (suc m) nd u = child_uses nd u

abbrev pub one_if : ℕ → ℕ
one_if zero = 0
one_if (suc m) = 1

-- the counts of the nodes below count stand in the words
abbrev pub Uses : ℕ → List ℕ → (ℕ → ℕ) → Type 0
Uses count l u = (j : ℕ) → j < count → uses_at l j ≡ u j

pub record Visiting (words l : List ℕ) (k : ℕ) : Type 0 where
  pub count : ℕ
  pub n : ℕ
  pub u : ℕ → ℕ
  pub uses : Uses count l u
  pub long : 4 * count ≤ length l
  pub low : k < count
  pub well : node_at n words k ≢ Malformed
  pub nodes_long : 2 * count ≤ length words
  pub nodes_few : count ≤ 65536
  pub few : (j : ℕ) → u j < 18446744073709551614

pub record Visited {words l : List ℕ} {k : ℕ} (g : Visiting words l k) (l' : List ℕ) (r : ℕ) : Type 0 where
  pub uses : Uses g.count l' (visit (g.u k) (node_at g.n words k) g.u)
  pub one_is : r ≡ one_if (g.u k)

-- no count is above `most` before the nodes are looked at
pub record Counting (words l : List ℕ) (count : ℕ) : Type 0 where
  pub n : ℕ
  pub u : ℕ → ℕ
  pub most : ℕ
  pub uses : Uses count l u
  pub long : 4 * count ≤ length l
  pub well : (i : ℕ) → i < count → node_at n words i ≢ Malformed
  pub nodes_long : 2 * count ≤ length words
  pub nodes_few : count ≤ 65536
  pub few : (j : ℕ) → u j ≤ most
  pub most_low : most ≤ 9223372036854775808

pub record CountedUp {words l : List ℕ} {count : ℕ} (g : Counting words l count) (l' : List ℕ) (r : ℕ) : Type 0 where
  pub uses : Uses count l' (scan (node_at g.n words) count g.u).uses
  pub reached_is : r ≡ (scan (node_at g.n words) count g.u).reached

-- ---- the state in words

-- a value that is done and has a use left is the chain of the tag j + 2; the records that are spare and those held are the room
pub record Rep (count room : ℕ) (l p : List ℕ) (left : Ledger) (who : Who) (s : State) : Type 0 where
  pub scratch : Scratch count l s
  pub chains : (j : ℕ) → j < count → s.done j ≡ true → 0 < s.uses j → Chain p who (j + 2) 0 (head_in (value_at l j)) (s.value j).factors
  pub freed : Free p who left.free left.spare
  pub balance : left.spare + s.held ≡ room
  pub work_is : left.work ≡ s.work

-- the words stand for t
pub record Stands (count room : ℕ) (l p : List ℕ) (t : State) (left : Ledger) : Type 0 where
  pub who : Who
  pub rep : Rep count room l p left who t

-- v is the value x, and the chain of the tag
pub record ValueIs (p : List ℕ) (who : Who) (tag : ℕ) (v : Value) (x : Sparse) : Type 0 where
  pub chain : Chain p who tag 0 v.head x.factors
  pub count_is : v.count ≡ size x
  pub phase_is : v.phase ≡ phase_number x.phase

-- ---- a use taken

pub record Takeable (l p : List ℕ) (limit w : ℕ) (left : Ledger) : Type 0 where
  pub count : ℕ
  pub room : ℕ
  pub who : Who
  pub s : State
  pub tag : ℕ
  pub tag_low : tag < 2
  pub rep : Rep count room l p left who s
  pub named : node_in w < count
  pub nodes_few : count ≤ 65536
  pub done_is : s.done (node_in w) ≡ true
  pub used : 0 < s.uses (node_in w)
  pub paid : s.work ≤ limit

-- the value in hand is the chain `tag`; another in hand stands
pub record TookRep {l p : List ℕ} {limit w : ℕ} {left : Ledger} (g : Takeable l p limit w left) (l' p' : List ℕ) (a : Taken) (b : Value × Ledger) : Type 0 where
  pub who' : Who
  pub rep : Rep g.count g.room l' p' b.1 who' a.state
  pub value : ValueIs p' who' g.tag b.0 a.value
  pub kept : (t lo h : ℕ) (fs : List Factor) → t < 2 → (t ≡ g.tag → ⊥) → Chain p g.who t lo h fs → Chain p' who' t lo h fs

-- ---- a product made

-- the values x and y, in hand, are to be multiplied into the node i
pub record Multiplying (l p : List ℕ) (limit i : ℕ) (a b : Value) (left : Ledger) : Type 0 where
  pub count : ℕ
  pub room : ℕ
  pub who : Who
  pub s : State
  pub x : Sparse
  pub y : Sparse
  pub rep : Rep count room l p left who s
  pub first : ValueIs p who 0 a x
  pub second : ValueIs p who 1 b y
  pub low : i < count
  pub few : room < 65536
  pub paid : s.work ≤ limit
  pub in_hand : size x + size y ≤ s.held
  pub product_few : size (multiply x y) ≤ 256

-- the smaller count is charged, and the node i is the product
abbrev pub product_made : ℕ → ℕ → Sparse → Sparse → State → Out State
product_made limit i x y s = bind (charge limit (min (size x) (size y)) s) (λ t. fine (finish i (multiply x y) (size x + size y) t))

-- ---- the walk at rest between two steps

pub record Walking (words l p : List ℕ) (count limit : ℕ) (left : Ledger) : Type 0 where
  pub n : ℕ
  pub room : ℕ
  pub total : ℕ → ℕ
  pub rest : ℕ → ℕ
  pub who : Who
  pub s : State
  pub rep : Rep count room l p left who s
  pub inv : Inv limit room n count (node_at n words) total rest none 0 s
  pub well : (i : ℕ) → i < count → node_at n words i ≢ Malformed
  pub qubits_few : n ≤ 256
  pub few : room < 65536
  pub nodes_few : count ≤ 65536
  pub nodes_long : 2 * count ≤ length words

-- the node i, not done and with a use left, is the product of the words lw and rt, which are done
pub record Combining (l p : List ℕ) (limit i lw rt : ℕ) (left : Ledger) : Type 0 where
  pub words : List ℕ
  pub count : ℕ
  pub at : Walking words l p count limit left
  pub low : i < count
  pub is_product : node_at at.n words i ≡ Product lw rt
  pub not_done : at.s.done i ≡ false
  pub used : 0 < at.s.uses i
  pub left_done : at.s.done (node_in lw) ≡ true
  pub right_done : at.s.done (node_in rt) ≡ true

-- the node i's value is to be made of at most one record
pub record Making (l p : List ℕ) (i : ℕ) (left : Ledger) : Type 0 where
  pub count : ℕ
  pub room : ℕ
  pub who : Who
  pub s : State
  pub rep : Rep count room l p left who s
  pub low : i < count
  pub nodes_few : count ≤ 65536

-- the node i is one factor
abbrev pub factor_made : ℕ → ℕ → ℕ → Pauli → State → Out State
factor_made room i q a s = bind (lend room 1 s) (λ t. fine (finish i (one q a) 1 t))

-- the node i is the top of a path, whose links are words
pub record Topped (words l p : List ℕ) (limit i : ℕ) (left : Ledger) : Type 0 where
  pub count : ℕ
  pub at : Walking words l p count limit left
  pub path : List ℕ
  pub trail : Trail count at.s 0 (i ∷ path)
  pub wanted : Wanted at.s (i ∷ path)
  pub linked : Linked l (suc i) (i ∷ path)

-- and a product
pub record Branched (l p : List ℕ) (limit i lw rt : ℕ) (left : Ledger) : Type 0 where
  pub words : List ℕ
  pub top : Topped words l p limit i left
  pub is_product : node_at top.at.n words i ≡ Product lw rt

-- the node i, not done, is alone on the path
pub record Started (words l p : List ℕ) (count limit i : ℕ) (left : Ledger) : Type 0 where
  pub at : Walking words l p count limit left
  pub low : i < count
  pub used : 0 < at.s.uses i
  pub not_done : at.s.done i ≡ false
  pub ends : scratch_at 3 l i ≡ 0

-- the words stand for the spot
pub record Landed (count room : ℕ) (l p : List ℕ) (q : Spot) (b : ℕ × Ledger) : Type 0 where
  pub stands : Stands count room l p q.state b.1
  pub linked : Linked l b.0 q.path

-- the node i is to be evaluated
pub record Rooted (words l p : List ℕ) (count limit i : ℕ) (left : Ledger) : Type 0 where
  pub at : Walking words l p count limit left
  pub low : i < count
  pub used : 0 < at.s.uses i

-- ---- one root

-- a walk of one root can begin
pub record RootReady (words l : List ℕ) (count w : ℕ) : Type 0 where
  pub n : ℕ
  pub named : node_in w < count
  pub long : 4 * count ≤ length l
  pub well : (i : ℕ) → i < count → node_at n words i ≢ Malformed
  pub qubits_few : n ≤ 256
  pub nodes_long : 2 * count ≤ length words
  pub nodes_few : count ≤ 65536

-- the scratch gives the word v the phase of what v stands for
abbrev pub TurnIs : (n count : ℕ) → (words l : List ℕ) → ℕ → Type 0
TurnIs n count words l v = (value_named l v).phase ≡ phase_number (image n count words v).phase

-- the phases of the node i and, if it is a product, of its two factors stand in the scratch
pub record Settled (n count : ℕ) (words l : List ℕ) (i : ℕ) : Type 0 where
  pub own : TurnIs n count words l (4 * i)
  pub factors : (a b : ℕ) → node_at n words i ≡ Product a b → TurnIs n count words l a × TurnIs n count words l b

-- what was shown is a chain, and the root's phases stand in the scratch
pub record Showing (n count : ℕ) (words : List ℕ) (w : ℕ) (l p : List ℕ) (r : Walked) (b : Value × Ledger) : Type 0 where
  pub x : Sparse
  pub who : Who
  pub tag : ℕ
  pub shown_is : r.shown ≡ x ∷ []
  pub value : ValueIs p who tag b.0 x
  pub work_is : b.1.work ≡ r.state.work
  pub settled : Settled n count words l (node_in w)

-- ---- letters

abbrev pub bytes : List Pauli → List ℕ
bytes us = map pauli_number us

-- the first n are the letters of the factors, and the rest is as it was
abbrev pub letters_written : ℕ → List Factor → List ℕ → List ℕ
letters_written n fs was = bytes (spread n 0 fs) ++ drop n was

-- a letter at q, if that is among the first n
abbrev pub letter_put : ℕ → ℕ → ℕ → List ℕ → List ℕ
letter_put n q letter was = cond (ltb q n) (set was q letter) was

-- the letters of the factors, one after another
abbrev pub letters_put : ℕ → List Factor → List ℕ → List ℕ
letters_put n [] was = was
letters_put n (f ∷ fs) was = letters_put n fs (letter_put n f.qubit (pauli_number f.pauli) was)

-- from head on there are so many factors
pub record ShowReady (p : List ℕ) (head count : ℕ) : Type 0 where
  pub who : Who
  pub tag : ℕ
  pub fs : List Factor
  pub chain : Chain p who tag 0 head fs
  pub counted : count ≡ length fs
