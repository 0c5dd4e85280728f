-- What a step of the walk answers in code, read as an outcome of the definition; and how the two stand to each other.
use Rattle.std.specs.Prelude.{◌≡◌, ℕ, ◌+◌, ◌-◌, ◌≤◌, ◌<◌, length, Option, Some, None, Result, Ok, Err}
use Rattle.arena.specs.Walk.{Out, fine, refused}
use Rattle.arena.specs.Errors.{PbcError, ExpansionLimit}
pub use Rattle.arena.specs.declared.pool.Ledger.{Ledger}
pub use Rattle.arena.specs.declared.pool.Value.{Value}
use Rattle.arena.specs.declared.materialize.Walk.{Walk}

-- what the functions of a walk answer
abbrev pub Evaluated : Type 0
Evaluated = Result Ledger PbcError

abbrev pub Stepped : Type 0
Stepped = Result (ℕ × Ledger) PbcError

-- an answer of the code as an outcome of the definition
abbrev pub out_of : {A : Type 0} → Result A PbcError → Out A
out_of (Ok a) = fine a
out_of (Err e) = refused e

-- a node evaluated, and the path then at `top`
abbrev pub up_from : ℕ → Evaluated → Stepped
up_from top (Ok left) = Ok (top, left)
up_from top (Err e) = Err e

-- an answer of a method of the walk, and what the walk has left after it
abbrev pub with_left : {A : Type 0} → Result A PbcError → Ledger → Result (A × Ledger) PbcError
with_left (Ok a) left = Ok (a, left)
with_left (Err e) left = Err e

abbrev pub left_after : Result (Unit {0}) PbcError → Ledger → Evaluated
left_after (Ok u) left = Ok left
left_after (Err e) left = Err e

-- so much more work: allowed by the limit, or not
abbrev pub Allowed : (limit work amount : ℕ) → Result ℕ PbcError → Type 0
Allowed limit work amount (Ok after) = (amount ≤ limit - work) × (after ≡ work + amount)
Allowed limit work amount (Err e) = (limit - work < amount) × (e ≡ ExpansionLimit)

-- the top of a path as the links have it: the node and 1, or 0 for none
abbrev pub top_of : Option ℕ → ℕ
top_of None = 0
top_of (Some i) = i + 1

abbrev pub stepped : Result (Option ℕ) PbcError → Ledger → Stepped
stepped (Ok top) left = Ok (top_of top, left)
stepped (Err e) left = Err e

-- what a walk reads, and the slices that it works in, are the same
abbrev pub StillLent : Walk → Walk → Type 0
StillLent was now = (now.nodes.now ≡ was.nodes.now) × (now.count ≡ was.count) × (now.limit ≡ was.limit)
    × (now.scratch.ghost_name ≡ was.scratch.ghost_name) × (now.pool.ghost_name ≡ was.pool.ghost_name)
    × (length now.scratch.now ≡ length was.scratch.now) × (length now.pool.now ≡ length was.pool.now)

-- both answer, and R says how the answers stand to each other; or both refuse, for the same reason
abbrev pub Agrees : {A B : Type 0} → Out A → Out B → (A → B → Type 0) → Type 0
Agrees (fine a) (fine b) R = R a b
Agrees (fine a) (refused e) R = ⊥
Agrees (refused e) (fine b) R = ⊥
Agrees (refused e) (refused f) R = e ≡ f

-- the same as a record, which determines its parts
pub record Says {A B : Type 0} (x : Out A) (y : Out B) (R : A → B → Type 0) : Type 0 where
  pub says : Agrees x y R
