-- E10 of document 02: of the measurements into one classical bit a conversion takes only the first. What is claimed of refusal 24.
use Rattle.std.specs.Prelude.{◌≡◌, ◌≢◌, true, List, [], ◌∷◌, ℕ, zero, suc, ◌%◌, ◌<◌, ◌≤◌, length, take}
use Rattle.convert.specs.Types.{Bit, NoTarget, Fine}
use Rattle.convert.specs.Records.{Record, records, kind_of}
use Rattle.convert.specs.Plain.{Operation, rotate_by, measure_of, conditional_by, malformed}
use Rattle.convert.specs.Conversion.{Limits, Input, is_measure, records_checked}
use Rattle.convert.specs.Sources.{read_back}

-- what stands at place j of a list, from 0 on, has the property
abbrev pub At : {A : Type 0} → (A → Type 0) → List A → ℕ → Type 0
At P [] j = ⊥
At P (x ∷ xs) zero = P x
At P (x ∷ xs) (suc j) = At P xs j

-- a record that measures into classical bit b
abbrev pub Into : ℕ → Record → Type 0
Into b r = (is_measure (kind_of r.kind) ≡ true) × (r.b ≡ b)

-- an operation that does
abbrev pub OperationInto : ℕ → Operation → Type 0
OperationInto b (rotate_by k P) = ⊥
OperationInto b (measure_of P m (Bit k)) = k ≡ b
OperationInto b (measure_of P m NoTarget) = ⊥
OperationInto b (conditional_by k P m) = ⊥
OperationInto b malformed = ⊥

-- ---- when 24 is answered

-- a record before i that measures into b
pub record Earlier (rs : List Record) (i b : ℕ) : Type 0 where
  pub place : ℕ
  pub before : place < i
  pub into : At (Into b) rs place

-- record i is the first fault of the list, and measures into b as an earlier record does
pub record Repeats (l : Limits) (x : Input) (i b : ℕ) : Type 0 where
  -- 1 and 2 pass
  pub qubits : x.qubits ≤ l.qubits
  pub cbits : x.cbits ≤ l.cbits
  pub whole : length x.gates % 4 ≡ 0
  pub gate_words : length x.gates ≤ l.gate_words
  -- all checks of the records before i pass
  pub before : records_checked Fine x.qubits x.cbits 0 [] (take i (records x.gates)) ≡ Fine
  -- record i is a measurement, which passes 5, into b; it passes 7 and 9
  pub here : At (λ r. Into b r × (r.a < x.qubits)) (records x.gates) i
  pub bit : b < x.cbits
  pub earlier : Earlier (records x.gates) i b

-- ---- what is accepted

pub record TargetsDiffer (x : Input) : Type 0 where
  -- two records measure into different classical bits
  pub records_differ : (i j b c : ℕ) → i < j → At (Into b) (records x.gates) i → At (Into c) (records x.gates) j → b ≢ c
  -- as do two measurements among the operations, as their words are read
  pub operations_differ : (i j b c : ℕ) → i < j → At (λ o. OperationInto b o.what) (read_back x) i → At (λ o. OperationInto c o.what) (read_back x) j → b ≢ c
