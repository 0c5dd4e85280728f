-- The types of the lower crates, under the names that their own specifications use.
pub use Rattle.pauli.specs.declared.pauli.Phase.TheVariants.{the_data as Phase, One, I as PlusI, MinusOne, MinusI}
pub use Rattle.pauli.specs.declared.pauli.Pauli.TheVariants.{the_data as Pauli, I, X, Y, Z}
pub use Rattle.pauli.specs.declared.angle.PauliAngle.{PauliAngle}
pub use Rattle.arena.specs.declared.header.Header.{Header}
pub use Rattle.arena.specs.declared.pauli_ref.PauliRef.{PauliRef}
pub use Rattle.arena.specs.declared.pauli_ref.PauliAxis.{PauliAxis}
pub use Rattle.arena.specs.declared.op.MeasId.{MeasId}
pub use Rattle.arena.specs.Operations.{Target, Bit, NoTarget}
pub use Rattle.arena.specs.declared.op.PbcOp.TheVariants.{the_data as PbcOp, Rotate, Measure, ConditionalRotate, Malformed}
pub use Rattle.arena.specs.declared.error.PbcError.TheVariants.{the_data as PbcError, TooManyQubits, BrokenGateList, BadStore, UnsupportedGate, NonCliffordFrameGate, QubitOutOfRange}
pub use Rattle.arena.specs.declared.error.PbcError.TheVariants.{RepeatedOperand, ClassicalBitOutOfRange, CapTooSmall, NoPlanes, NoFrame, NoNodes, NoOperations, ExpansionLimit, NoPool}
pub use Rattle.arena.specs.declared.error.PbcError.TheVariants.{NonHermitianAxis, TargetTaken}
pub use Rattle.arena.specs.Errors.{Checked, Fine, Wrong}
pub use Rattle.arena.specs.Builder.{Singled, SingledMade, SingledRefused, Multiplied, MultipliedMade, MultipliedRefused, Pushed, PushedMade, PushedRefused, Measured, MeasuredMade, MeasuredRefused}
