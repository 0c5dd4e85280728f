-- A conversion as an operator: its operations in turn, and then the frame.
use Rattle.std.specs.Prelude.{◌≡◌, Bool, cond, List, [], ◌∷◌, ℕ, ◌+◌, ◌<◌, get_or}
use Rattle.pauli.specs.Rows.{identity}
use Rattle.pauli.specs.Gates.{Gate, AllValid}
use Rattle.pauli.specs.Table.{start}
use Rattle.convert.specs.Records.{records, From, without_index}
use Rattle.convert.specs.Plain.{Operation, rotate_by, measure_of, conditional_by, malformed}
use Rattle.convert.specs.Words.{operations_in}
use Rattle.convert.specs.Conversion.{Input}
use Rattle.convert.specs.Later.{Circuit, converted}
use Rattle.convert.specs.Statement.{frame_images}
use Rattle.operators.specs.Operators.{Operators, root_to, turn}
use Rattle.operators.specs.Textbook.{seen, circuit_operator, gates_operator}

-- the used operations of a circuit, read from its words, with the gate record that each names
abbrev pub sourced_of : Circuit → List (From Operation)
sourced_of s = operations_in s.header s.nodes s.operations

-- and without
abbrev pub operations_of : Circuit → List Operation
operations_of s = without_index (sourced_of s)

-- words that are no operation are the operator 0
abbrev pub operation_operator : {n : ℕ} (O : Operators n) → (ℕ → Bool) → Operation → O.Op
operation_operator O outcome (rotate_by k P) = turn O k P
operation_operator O outcome (measure_of P m b) = seen O (outcome m) P
operation_operator O outcome (conditional_by k P m) = cond (outcome m) (turn O k P) O.one
operation_operator O outcome malformed = O.none

-- operations, the first first
abbrev pub operations_operator : {n : ℕ} (O : Operators n) → (ℕ → Bool) → List Operation → O.Op
operations_operator O outcome [] = O.one
operations_operator O outcome (o ∷ os) = O.times (operations_operator O outcome os) (operation_operator O outcome o)

-- the operator a is, up to a power of the root, the operations os in turn and then some frame gates: an invertible operator,
-- which carries the X or Z of each place to the image that the frame of the circuit s has there
pub record Performs {n : ℕ} (O : Operators n) (outcome : ℕ → Bool) (a : O.Op) (os : List Operation) (s : Circuit) : Type 0 where
  pub gates : List Gate
  pub valid : AllValid n gates
  pub phase : ℕ
  pub same : a ≡ O.times (root_to O phase) (O.times (gates_operator O gates) (operations_operator O outcome os))
  pub framed : (j : ℕ) → j < n + n
      → O.times (O.read (get_or (start n) j (identity n))) (gates_operator O gates) ≡ O.times (gates_operator O gates) (O.read (get_or (frame_images s) j (identity n)))
  pub inverse : O.Op
  pub left : O.times inverse (gates_operator O gates) ≡ O.one
  pub right : O.times (gates_operator O gates) inverse ≡ O.one

-- the circuit is what the conversion of it performs
abbrev pub Whole : (x : Input) → Operators x.qubits → (ℕ → Bool) → Type 0
Whole x O outcome = Performs O outcome (circuit_operator O outcome 0 (records x.gates)) (operations_of (converted x)) (converted x)
