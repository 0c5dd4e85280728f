-- E2 of document 02: the gate record that an operation names. What is claimed of it, besides that it is the papers' (Converts).
use Rattle.std.specs.Prelude.{◌≡◌, ◌⊎◌, Bool, true, false, cond, List, [], ◌∷◌, map, ℕ, ◌%◌, ◌<◌, ◌≤◌, eqb, length, get_or}
use Rattle.pauli.specs.Gates.{Gate}
use Rattle.pauli.specs.Rotations.{written}
use Rattle.convert.specs.Records.{is_narrow, Record, records, lower_in, Elementary, clifford, el_t, el_tdg, el_ccx, el_ccz, el_measure, From}
use Rattle.convert.specs.Plain.{Operation, rotate_by, measure_of, conditional_by, malformed, as_rotation}
use Rattle.convert.specs.Paper.{writes}
use Rattle.convert.specs.Words.{operations_in}
use Rattle.convert.specs.Conversion.{Input, converted_header, convert_step}

abbrev pub Member : {A : Type 0} → A → List A → Type 0
Member x [] = ⊥
Member x (y ∷ ys) = (x ≡ y) ⊎ Member x ys

abbrev pub All : {A : Type 0} → (A → Type 0) → List A → Type 0
All P [] = Unit {0}
All P (x ∷ xs) = P x × All P xs

-- ---- which gate an operation is of

-- what a flush writes for an elementary gate that was pending
abbrev pub flush_writes : ℕ → Elementary → List Operation
flush_writes n (clifford g) = map as_rotation (written n g)
flush_writes n (el_t q) = []
flush_writes n (el_tdg q) = []
flush_writes n (el_ccx a b d) = []
flush_writes n (el_ccz a b d) = []
flush_writes n (el_measure q k) = []

-- a gate writes an operation itself, after some Clifford gates and so many measurements
pub record Writes (n : ℕ) (e : Elementary) (o : Operation) : Type 0 where
  pub since : List Gate
  pub given : ℕ
  pub wrote : Member o (writes n since given e)

-- no flush wrote it: it has an odd angle or is measured
abbrev pub unflushed : Operation → Bool
unflushed (rotate_by k P) = eqb (k % 2) 1
unflushed (measure_of P m b) = true
unflushed (conditional_by k P m) = true
unflushed malformed = true

-- a flush wrote an operation for a gate, or the gate wrote it itself
abbrev pub Wrote : ℕ → Elementary → Operation → Type 0
Wrote n e o = (Member o (flush_writes n e) × (unflushed o ≡ false)) ⊎ (Writes n e o × (unflushed o ≡ true))

-- an operation names a record of the list, one of whose gates it is of
pub record OfRecord (n : ℕ) (narrow : Bool) (rs : List Record) (o : From Operation) : Type 0 where
  pub gate : Elementary
  pub lowered : Member gate (get_or (map (lower_in narrow) rs) o.index [])
  pub wrote : Wrote n gate o.what

-- ---- the order of indices

abbrev pub unflushed_indices : List (From Operation) → List ℕ
unflushed_indices [] = []
unflushed_indices (o ∷ os) = cond (unflushed o.what) (o.index ∷ unflushed_indices os) (unflushed_indices os)

-- each is at least the one before it
abbrev pub NeverFall : List ℕ → Type 0
NeverFall [] = Unit {0}
NeverFall (i ∷ []) = Unit {0}
NeverFall (i ∷ j ∷ js) = (i ≤ j) × NeverFall (j ∷ js)

-- ---- of an accepted conversion, as its words are read

abbrev pub read_back : Input → List (From Operation)
read_back x = operations_in (converted_header x) (convert_step x).nodes (convert_step x).operations

pub record Sources (x : Input) : Type 0 where
  -- every index is below the number of gate records
  pub below : All (λ o. o.index < length (records x.gates)) (read_back x)
  -- the record that it names is one whose lowering contains the operation's gate
  pub named : All (OfRecord x.qubits (is_narrow x.cap) (records x.gates)) (read_back x)
  -- the indices of operations that no flush wrote never fall
  pub never_fall : NeverFall (unflushed_indices (read_back x))
