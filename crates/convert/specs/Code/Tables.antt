-- Tables that are made once a conversion: an entry for each kind from number 0 to 20.
use Rattle.std.specs.Prelude.{◌≡◌, Bool, false, cond, ◌&&◌, List, [], ◌∷◌, map, ℕ, ◌+◌, ◌*◌}
use Rattle.convert.specs.Types.{Checked}
use Rattle.convert.specs.Records.{GateKind, Shape, NoShape, OneQubit, TwoQubits, ThreeQubits, Measured, shape_of, kinds, kind_of, Record, record_of, records, parts_as}
use Rattle.convert.specs.Conversion.{is_doubly, is_measure, record_checked, records_checked}
use Rattle.convert.specs.Code.Raw.{cost_of, closed}
use Rattle.convert.specs.declared.count.Needed.{Needed}

abbrev pub table_of : (GateKind → ℕ) → List ℕ
table_of f = map f kinds

-- ---- soundness

-- what the second operand stays below: for one qubit every word passes, for what is not supported none; nor for a measurement, of which the table says nothing
abbrev pub bound_by : ℕ → Shape → ℕ
bound_by n NoShape = 0
bound_by n OneQubit = 4294967296
bound_by n TwoQubits = n
bound_by n ThreeQubits = n
bound_by n Measured = 0

abbrev pub bound_of : ℕ → GateKind → ℕ
bound_of n kind = bound_by n (shape_of kind)

-- what keeps the second operand from being the first, where it is no qubit
abbrev pub apart_by : Shape → ℕ
apart_by NoShape = 0
apart_by OneQubit = 4294967296
apart_by TwoQubits = 0
apart_by ThreeQubits = 0
apart_by Measured = 4294967296

abbrev pub apart_of : GateKind → ℕ
apart_of kind = apart_by (shape_of kind)

-- a record with these operands is no measurement and passes its checks, whatever came before, if these are its kind's entries
abbrev pub Passes : ℕ → ℕ → ℕ → ℕ → ℕ → ℕ → ℕ → Type 0
Passes n number bound above a b c =
    bound ≡ bound_of n (kind_of number) → above ≡ apart_of (kind_of number)
    → (is_measure (kind_of number) ≡ false) × ((checked : Checked) (cbits i : ℕ) (taken : List ℕ) → record_checked checked n cbits i taken (record_of number a b c) ≡ checked)

-- all records pass their checks
abbrev pub AllPass : ℕ → ℕ → List ℕ → List ℕ → List ℕ → Type 0
AllPass n cbits bounds above gs =
    bounds ≡ table_of (bound_of n) → above ≡ table_of apart_of → (checked : Checked) → records_checked checked n cbits 0 [] (records gs) ≡ checked

-- ---- sums

-- nodes in the low 32 bits, operations above
abbrev pub together : Needed → ℕ
together k = k.nodes + 4294967296 * k.operations

unfoldable pub packed_cost : Bool → GateKind → ℕ
packed_cost f kind = together (closed f (cost_of kind))

-- the sum of f over the kinds of records
unfoldable pub sum_over : (GateKind → ℕ) → List Record → ℕ
sum_over f [] = 0
sum_over f (r ∷ rs) = f (kind_of r.kind) + sum_over f rs

-- and over the parts of a kind
unfoldable pub sum_in : (narrow : Bool) → (GateKind → ℕ) → GateKind → ℕ
sum_in narrow f kind = cond (narrow && is_doubly kind) (sum_over f (parts_as kind (record_of 0 0 0 0))) (f kind)
