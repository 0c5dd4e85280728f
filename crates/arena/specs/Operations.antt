-- Operations (document 01; E2 of document 02): what the words of one stand for, the gate that it came from, and the kind of its axis.
use Rattle.std.specs.Prelude.{cond, ◌&&◌, List, [], ◌∷◌, ℕ, zero, suc, ◌+◌, ◌*◌, ◌/◌, ◌%◌, leb, ltb, eqb, Option}
use Rattle.pauli.specs.Angle.{angle_of, eighths_of}
use Rattle.arena.specs.Limits.{max_gates, hand_mark}
use Rattle.arena.specs.References.{axis_of}
pub use Rattle.arena.specs.declared.op.MeasId.{MeasId}
pub use Rattle.std.specs.Prelude.{Some as Bit, None as NoTarget}
pub use Rattle.arena.specs.declared.op.AxisKind.TheVariants.{the_data as AxisKind, None as NoKind, Pi8, Clifford, Measurement}
pub use Rattle.arena.specs.declared.op.Source.TheVariants.{the_data as Source, Gate as OfGate, Hand as ByHand, Malformed as NoSource}
pub use Rattle.arena.specs.declared.op.PbcOp.TheVariants.{the_data as PbcOp, Rotate, Measure, ConditionalRotate, Malformed}

-- the classical bit that a measurement writes, or none
abbrev pub Target : Type 0
Target = Option ℕ

abbrev pub meas_id : ℕ → ℕ → MeasId
meas_id owner number = record { 0 = owner; 1 = number }

-- ---- words: kind + 4 × angle, axis, measurement, classical bit + 1, the index of the gate record that it came from

abbrev pub target_word : Target → ℕ
target_word (Bit b) = b + 1
target_word NoTarget = 0

abbrev pub rotate_words : (axis angle gate : ℕ) → List ℕ
rotate_words axis angle gate = (4 * angle) ∷ axis ∷ 0 ∷ 0 ∷ gate ∷ []

abbrev pub measure_words : (axis number : ℕ) → Target → (gate : ℕ) → List ℕ
measure_words axis number target gate = 1 ∷ axis ∷ number ∷ target_word target ∷ gate ∷ []

abbrev pub conditional_words : (axis angle number gate : ℕ) → List ℕ
conditional_words axis angle number gate = (2 + 4 * angle) ∷ axis ∷ number ∷ 0 ∷ gate ∷ []

-- ---- and back

abbrev pub target_of : ℕ → Target
target_of zero = NoTarget
target_of (suc b) = Bit b

-- an operation of a circuit with so many classical bits by its kind, its angle, and its other words
abbrev pub decode_op_as : ℕ → ℕ → ℕ → ℕ → ℕ → ℕ → ℕ → PbcOp
decode_op_as zero owner cbits angle w m t =
    cond (ltb angle 8 && eqb m 0 && eqb t 0) (Rotate (axis_of (record { owner = owner; word = w })) (angle_of angle)) Malformed
decode_op_as (suc zero) owner cbits angle w m t =
    cond (eqb angle 0 && leb t cbits) (Measure (axis_of (record { owner = owner; word = w })) (meas_id owner m) (target_of t)) Malformed
decode_op_as (suc (suc zero)) owner cbits angle w m t =
    cond (ltb angle 8 && eqb t 0) (ConditionalRotate (axis_of (record { owner = owner; word = w })) (angle_of angle) (meas_id owner m)) Malformed
decode_op_as (suc (suc (suc k))) owner cbits angle w m t = Malformed

-- by its first four words: where it came from says nothing of what it is
unfoldable pub decode_op : ℕ → ℕ → ℕ → ℕ → ℕ → ℕ → PbcOp
decode_op owner cbits a w m t = decode_op_as (a % 4) owner cbits (a / 4) w m t

-- where it came from, by its last word: a gate record by its index, a caller's hand, or what is neither
unfoldable pub source_of : ℕ → Source
source_of gate = cond (ltb gate max_gates) (OfGate gate) (cond (eqb gate hand_mark) ByHand NoSource)

-- ---- axis kinds

-- an odd angle is Pi8, 2, 4 and 6 Clifford, and 0 no kind
abbrev pub angle_kind : ℕ → AxisKind
angle_kind k = cond (eqb k 0) NoKind (cond (eqb (k % 2) 1) Pi8 Clifford)

-- what is malformed has none either
unfoldable pub axis_kind : PbcOp → AxisKind
axis_kind (Rotate axis angle) = angle_kind (eighths_of angle)
axis_kind (Measure axis outcome target) = Measurement
axis_kind (ConditionalRotate axis angle outcome) = angle_kind (eighths_of angle)
axis_kind Malformed = NoKind
