-- The types of the lower crates, under the names that their own specifications use.
pub use Rattle.pauli.specs.declared.pauli.NumberProduct.{NumberProduct}
pub use Rattle.pauli.specs.declared.pauli.Pauli.TheVariants.{the_data as Pauli}
pub use Rattle.pauli.specs.declared.angle.PauliAngle.{PauliAngle}
pub use Rattle.arena.specs.declared.header.Header.{Header}
pub use Rattle.arena.specs.declared.pauli_ref.PauliRef.{PauliRef}
pub use Rattle.arena.specs.declared.pauli_ref.PauliAxis.{PauliAxis}
pub use Rattle.arena.specs.declared.op.MeasId.{MeasId}
pub use Rattle.arena.specs.Operations.{Target, Bit, NoTarget}
pub use Rattle.arena.specs.declared.error.PbcError.TheVariants.{the_data as PbcError}
pub use Rattle.arena.specs.Expansion.{Expansion, HermitianAxis, MaxAxisWeights, ExpandedAxes}
pub use Rattle.convert.specs.Conversion.{Converted}
pub use Rattle.convert.specs.Records.{Cap, NoCap, AtMost}
pub use Rattle.qasm.specs.declared.program.Program.{Program}
pub use Rattle.qasm.specs.declared.position.TextPosition.{TextPosition}
