-- The types of the lower crates, under the names that their own specifications use.
pub use Rattle.pauli.specs.declared.pauli.Phase.TheVariants.{the_data as Phase, One, I as PlusI, MinusOne, MinusI}
pub use Rattle.pauli.specs.declared.pauli.Pauli.TheVariants.{the_data as Pauli, I, X, Y, Z}
pub use Rattle.pauli.specs.declared.angle.PauliAngle.{PauliAngle}
pub use Rattle.arena.specs.declared.header.Header.{Header}
pub use Rattle.arena.specs.declared.node.PauliNode.TheVariants.{the_data as PauliNode, Identity, Single, Product, Malformed as MalformedNode}
pub use Rattle.arena.specs.declared.pauli_ref.PauliRef.{PauliRef}
pub use Rattle.arena.specs.declared.pauli_ref.PauliAxis.{PauliAxis}
pub use Rattle.arena.specs.declared.op.MeasId.{MeasId}
pub use Rattle.arena.specs.Operations.{Target, Bit, NoTarget}
pub use Rattle.arena.specs.declared.op.PbcOp.TheVariants.{the_data as PbcOp, Rotate, Measure, ConditionalRotate, Malformed as MalformedOp}
pub use Rattle.arena.specs.declared.error.PbcError.TheVariants.{the_data as PbcError}
pub use Rattle.arena.specs.Errors.{Checked, Fine, Wrong}
pub use Rattle.arena.specs.Builder.{Pushed, PushedMade, PushedRefused, Measured, MeasuredMade, MeasuredRefused}
pub use Rattle.convert.specs.declared.gate.GateKind.TheVariants.{the_data as GateKind, H as KindH, X as KindX, Z as KindZ, S as KindS, Sdg as KindSdg, T as KindT, Tdg as KindTdg}
pub use Rattle.convert.specs.declared.gate.GateKind.TheVariants.{Cnot as KindCnot, Cz as KindCz, Ccx as KindCcx, Ccz as KindCcz, Measure as KindMeasure, Y as KindY, Sx as KindSx}
pub use Rattle.convert.specs.declared.gate.GateKind.TheVariants.{Swap as KindSwap, Cy as KindCy, Unsupported}
pub use Rattle.convert.specs.Records.{Cap, NoCap}
pub use Rattle.convert.specs.Frame.{FramePushed, FramePushedMade, FramePushedRefused}
