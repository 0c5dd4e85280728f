-- The types of the lower crates, under the names that their own specifications use.
pub use Rattle.arena.specs.declared.error.PbcError.TheVariants.{the_data as PbcError}
pub use Rattle.arena.specs.Errors.{Checked, Fine, Wrong}
pub use Rattle.convert.specs.Conversion.{Converted, ConvertedMade, ConvertedRefused}
pub use Rattle.convert.specs.declared.gate.GateKind.TheVariants.{the_data as GateKind, H as KindH, X as KindX, Z as KindZ, S as KindS, Sdg as KindSdg, T as KindT, Tdg as KindTdg}
pub use Rattle.convert.specs.declared.gate.GateKind.TheVariants.{Cnot as KindCnot, Cz as KindCz, Ccx as KindCcx, Measure as KindMeasure, Y as KindY, Cy as KindCy}
