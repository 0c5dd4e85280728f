-- The refusals of document 01 ("Turning back") and of document 02: the number, gate index and operand of each, and the order of a call's checks.
use Rattle.std.specs.Prelude.{Bool, true, false, ℕ, Result, Ok}
pub use Rattle.std.specs.Prelude.{Err as Wrong}
pub use Rattle.arena.specs.declared.error.PbcError.TheVariants.{the_data as PbcError, TooManyQubits, BrokenGateList, BadStore, ForeignPauli, UnsupportedGate, NonCliffordFrameGate}
pub use Rattle.arena.specs.declared.error.PbcError.TheVariants.{QubitOutOfRange, RepeatedOperand, ClassicalBitOutOfRange, UnknownMeasurement, CapTooSmall, NoPlanes, NoFrame, NoNodes}
pub use Rattle.arena.specs.declared.error.PbcError.TheVariants.{NoOperations, NoScratch, ExpansionLimit, NoPool, NonHermitianAxis, BadText, NoGateRoom, TargetTaken}
pub use Rattle.arena.specs.declared.error.Refusal.{Refusal}

infixl 10 ◌⟫◌⇒◌
abbrev pub refusal_of : ℕ → ℕ → ℕ → Refusal
refusal_of number index operand = record { number = number; index = index; operand = operand }

-- number, the offending gate's place in the list (0 where no gate of a list is at fault), and the kind for 5 and 6, the qubit or bit for 7 to 9 and 24, the place in the text for 20
abbrev pub refusal_in : PbcError → Refusal
refusal_in TooManyQubits = refusal_of 1 0 0
refusal_in BrokenGateList = refusal_of 2 0 0
refusal_in BadStore = refusal_of 3 0 0
refusal_in ForeignPauli = refusal_of 4 0 0
refusal_in (UnsupportedGate index kind) = refusal_of 5 index kind
refusal_in (NonCliffordFrameGate kind) = refusal_of 6 0 kind
refusal_in (QubitOutOfRange index qubit) = refusal_of 7 index qubit
refusal_in (RepeatedOperand index qubit) = refusal_of 8 index qubit
refusal_in (ClassicalBitOutOfRange index bit) = refusal_of 9 index bit
refusal_in UnknownMeasurement = refusal_of 10 0 0
refusal_in CapTooSmall = refusal_of 11 0 0
refusal_in NoPlanes = refusal_of 12 0 0
refusal_in NoFrame = refusal_of 13 0 0
refusal_in NoNodes = refusal_of 14 0 0
refusal_in NoOperations = refusal_of 15 0 0
refusal_in NoScratch = refusal_of 16 0 0
refusal_in ExpansionLimit = refusal_of 17 0 0
refusal_in NoPool = refusal_of 18 0 0
refusal_in NonHermitianAxis = refusal_of 19 0 0
refusal_in (BadText place) = refusal_of 20 0 place
refusal_in NoGateRoom = refusal_of 21 0 0
refusal_in (TargetTaken index bit) = refusal_of 24 index bit

-- what the checks so far say: all passed, or the first that did not
abbrev pub Checked : Type 0
Checked = Result (Unit {0}) PbcError

pattern abbrev pub Fine : Checked
Fine = Ok tt

-- the checks so far, then one more: the first test that holds decides
unfoldable pub ◌⟫◌⇒◌ : Checked → Bool → PbcError → Checked
Ok u ⟫ true ⇒ e = Wrong e
Ok u ⟫ false ⇒ e = Fine
Wrong first ⟫ b ⇒ e = Wrong first
