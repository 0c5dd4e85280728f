-- Gate records (document 01), and the elementary gates that they are lowered to.
use Rattle.std.specs.Prelude.{Bool, false, cond, Option, ◌&&◌, ◌≢◌, List, [], ◌∷◌, ◌++◌, map, ℕ, suc, ◌<◌, eqb, leb, get_or}
use Rattle.pauli.specs.Gates.{Gate, gate_h, gate_x, gate_z, gate_s, gate_sdg, gate_cnot, gate_cz, Valid}
pub use Rattle.convert.specs.declared.gate.GateKind.TheVariants.{the_data as GateKind, H as KindH, X as KindX, Z as KindZ, S as KindS, Sdg as KindSdg, T as KindT, Tdg as KindTdg}
pub use Rattle.convert.specs.declared.gate.GateKind.TheVariants.{Cnot as KindCnot, Cz as KindCz, Ccx as KindCcx, Ccz as KindCcz, Measure as KindMeasure, Y as KindY, Sx as KindSx}
pub use Rattle.convert.specs.declared.gate.GateKind.TheVariants.{Swap as KindSwap, Cy as KindCy, Unsupported}
pub use Rattle.convert.specs.declared.gate.Shape.TheVariants.{the_data as Shape, None as NoShape, One as OneQubit, Two as TwoQubits, Three as ThreeQubits, Measured}
pub use Rattle.std.specs.Prelude.{Some as AtMost, None as NoCap}

-- the most letters other than I that an axis may have, or no such bound
abbrev pub Cap : Type 0
Cap = Option ℕ

-- four words: kind, then operands in declared order, the rest ignored
pub record Record : Type 0 where
  pub kind : ℕ
  pub a : ℕ
  pub b : ℕ
  pub c : ℕ

abbrev pub record_of : ℕ → ℕ → ℕ → ℕ → Record
record_of k a b c = record { kind = k; a = a; b = b; c = c }

-- the records that a list of words holds
unfoldable pub records : List ℕ → List Record
records [] = []
records (k ∷ []) = []
records (k ∷ a ∷ []) = []
records (k ∷ a ∷ b ∷ []) = []
records (k ∷ a ∷ b ∷ c ∷ ws) = record { kind = k; a = a; b = b; c = c } ∷ records ws

-- the kinds by number, from 0 on
abbrev pub kinds : List GateKind
kinds =
    KindH ∷ KindX ∷ KindZ ∷ KindS ∷ KindSdg ∷ KindT ∷ KindTdg ∷ Unsupported ∷ KindCnot ∷ KindCz ∷ KindCcx ∷ KindCcz ∷ KindMeasure
    ∷ Unsupported ∷ Unsupported ∷ KindY ∷ KindSx ∷ Unsupported ∷ Unsupported ∷ KindSwap ∷ KindCy ∷ []

-- all other numbers are unsupported
unfoldable pub kind_of : ℕ → GateKind
kind_of k = get_or kinds k Unsupported

-- what operands a kind has: so many qubits, or one and a classical bit; what is not supported has none
abbrev pub shape_of : GateKind → Shape
shape_of KindH = OneQubit
shape_of KindX = OneQubit
shape_of KindZ = OneQubit
shape_of KindS = OneQubit
shape_of KindSdg = OneQubit
shape_of KindT = OneQubit
shape_of KindTdg = OneQubit
shape_of KindCnot = TwoQubits
shape_of KindCz = TwoQubits
shape_of KindCcx = ThreeQubits
shape_of KindCcz = ThreeQubits
shape_of KindMeasure = Measured
shape_of KindY = OneQubit
shape_of KindSx = OneQubit
shape_of KindSwap = TwoQubits
shape_of KindCy = TwoQubits
shape_of Unsupported = NoShape

-- the shapes by number, as they are declared
abbrev pub shape_number : Shape → ℕ
shape_number NoShape = 0
shape_number OneQubit = 1
shape_number TwoQubits = 2
shape_number ThreeQubits = 3
shape_number Measured = 4

abbrev pub has_shape : GateKind → Shape → Bool
has_shape k s = eqb (shape_number (shape_of k)) (shape_number s)

-- ---- lowering

-- a frame gate, or what writes operations
pub data Elementary : Type 0 where
  clifford : Gate → Elementary
  el_t el_tdg : ℕ → Elementary
  el_ccx el_ccz : ℕ → ℕ → ℕ → Elementary
  el_measure : ℕ → ℕ → Elementary  -- qubit, classical bit

-- y is z, x; sx is h, s, h; swap(a,b) is cnot(a,b), cnot(b,a), cnot(a,b); cy is sdg target, cnot, s target
unfoldable pub lower_as : GateKind → ℕ → ℕ → ℕ → List Elementary
lower_as KindH a b c = clifford (gate_h a) ∷ []
lower_as KindX a b c = clifford (gate_x a) ∷ []
lower_as KindZ a b c = clifford (gate_z a) ∷ []
lower_as KindS a b c = clifford (gate_s a) ∷ []
lower_as KindSdg a b c = clifford (gate_sdg a) ∷ []
lower_as KindT a b c = el_t a ∷ []
lower_as KindTdg a b c = el_tdg a ∷ []
lower_as KindCnot a b c = clifford (gate_cnot a b) ∷ []
lower_as KindCz a b c = clifford (gate_cz a b) ∷ []
lower_as KindCcx a b c = el_ccx a b c ∷ []
lower_as KindCcz a b c = el_ccz a b c ∷ []
lower_as KindMeasure a b c = el_measure a b ∷ []
lower_as KindY a b c = clifford (gate_z a) ∷ clifford (gate_x a) ∷ []
lower_as KindSx a b c = clifford (gate_h a) ∷ clifford (gate_s a) ∷ clifford (gate_h a) ∷ []
lower_as KindSwap a b c = clifford (gate_cnot a b) ∷ clifford (gate_cnot b a) ∷ clifford (gate_cnot a b) ∷ []
lower_as KindCy a b c = clifford (gate_sdg b) ∷ clifford (gate_cnot a b) ∷ clifford (gate_s b) ∷ []
lower_as Unsupported a b c = []

unfoldable pub lower : Record → List Elementary
lower r = lower_as (kind_of r.kind) r.a r.b r.c

-- ---- ccx and ccz under a narrow cap (E4 of document 02)

-- a cap of 1 or 2
abbrev pub is_narrow : Cap → Bool
is_narrow NoCap = false
is_narrow (AtMost cap) = leb 1 cap && leb cap 2

-- ccz a b d as gates whose axes are short: cnot is 8, t is 5, tdg is 6
abbrev pub thirteen_of : ℕ → ℕ → ℕ → List Record
thirteen_of a b d =
    record_of 8 b d 0 ∷ record_of 6 d 0 0 ∷ record_of 8 a d 0 ∷ record_of 5 d 0 0 ∷ record_of 8 b d 0 ∷ record_of 6 d 0 0 ∷ record_of 8 a d 0
    ∷ record_of 5 b 0 0 ∷ record_of 5 d 0 0 ∷ record_of 8 a b 0 ∷ record_of 5 a 0 0 ∷ record_of 6 b 0 0 ∷ record_of 8 a b 0 ∷ []

-- ccx a b d: the same between two h on d
abbrev pub fifteen_of : ℕ → ℕ → ℕ → List Record
fifteen_of a b d = record_of 0 d 0 0 ∷ thirteen_of a b d ++ record_of 0 d 0 0 ∷ []

-- the parts of a record of this kind
abbrev pub parts_as : GateKind → Record → List Record
parts_as KindH r = r ∷ []
parts_as KindX r = r ∷ []
parts_as KindZ r = r ∷ []
parts_as KindS r = r ∷ []
parts_as KindSdg r = r ∷ []
parts_as KindT r = r ∷ []
parts_as KindTdg r = r ∷ []
parts_as KindCnot r = r ∷ []
parts_as KindCz r = r ∷ []
parts_as KindCcx r = fifteen_of r.a r.b r.c
parts_as KindCcz r = thirteen_of r.a r.b r.c
parts_as KindMeasure r = r ∷ []
parts_as KindY r = r ∷ []
parts_as KindSx r = r ∷ []
parts_as KindSwap r = r ∷ []
parts_as KindCy r = r ∷ []
parts_as Unsupported r = r ∷ []

-- under a narrow cap; under any other, and under none, a record is its only part
unfoldable pub parts_of : (narrow : Bool) → Record → List Record
parts_of narrow r = cond narrow (parts_as (kind_of r.kind) r) (r ∷ [])

-- the parts of all records
abbrev pub expanded : (narrow : Bool) → List Record → List Record
expanded narrow [] = []
expanded narrow (r ∷ rs) = parts_of narrow r ++ expanded narrow rs

-- ---- the gates of records

abbrev pub lower_parts : List Record → List Elementary
lower_parts [] = []
lower_parts (r ∷ rs) = lower r ++ lower_parts rs

unfoldable pub lower_in : (narrow : Bool) → Record → List Elementary
lower_in narrow r = lower_parts (parts_of narrow r)

-- a gate with the index of its record, and its place among the elementary gates of that record
pub record Placed (A : Type 0) : Type 0 where
  pub gate : A
  pub index : ℕ
  pub part : ℕ

abbrev pub placed : {A : Type 0} → ℕ → ℕ → A → Placed A
placed i j g = record { gate = g; index = i; part = j }

-- the gates of record i, from part j on
abbrev pub placed_from : {A : Type 0} → ℕ → ℕ → List A → List (Placed A)
placed_from i j [] = []
placed_from i j (e ∷ es) = placed i j e ∷ placed_from i (suc j) es

-- those of all records, the first of which has index i
unfoldable pub lower_from : (narrow : Bool) → ℕ → List Record → List (Placed Elementary)
lower_from narrow i [] = []
lower_from narrow i (r ∷ rs) = placed_from i 0 (lower_in narrow r) ++ lower_from narrow (suc i) rs

unfoldable pub lower_all : (narrow : Bool) → List Record → List (Placed Elementary)
lower_all narrow rs = lower_from narrow 0 rs

-- the gates without their places
abbrev pub bare : {A : Type 0} → List (Placed A) → List A
bare gs = map (λ g. g.gate) gs

-- what came of a gate record, with the record's index
pub record From (A : Type 0) : Type 0 where
  pub what : A
  pub index : ℕ

abbrev pub from : {A : Type 0} → ℕ → A → From A
from i a = record { what = a; index = i }

-- another thing of the same record
abbrev pub map_from : {A B : Type 0} → (A → B) → From A → From B
map_from f x = from x.index (f x.what)

-- the things without their records
abbrev pub without_index : {A : Type 0} → List (From A) → List A
without_index xs = map (λ x. x.what) xs

-- ---- what the checks of a conversion leave

-- the operands are among the n qubits and the classical bits, and the qubits of one gate differ
abbrev pub Proper : ℕ → ℕ → Elementary → Type 0
Proper n cbits (clifford g) = Valid n g
Proper n cbits (el_t q) = q < n
Proper n cbits (el_tdg q) = q < n
Proper n cbits (el_ccx a b d) = (a < n) × (b < n) × (d < n) × (a ≢ b) × (a ≢ d) × (b ≢ d)
Proper n cbits (el_ccz a b d) = (a < n) × (b < n) × (d < n) × (a ≢ b) × (a ≢ d) × (b ≢ d)
Proper n cbits (el_measure q k) = (q < n) × (k < cbits)

abbrev pub AllProper : ℕ → ℕ → List Elementary → Type 0
AllProper n cbits [] = Unit {0}
AllProper n cbits (e ∷ es) = Proper n cbits e × AllProper n cbits es
