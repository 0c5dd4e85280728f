-- The types of the crate arena, under the names that its own specifications use.
pub use Rattle.arena.specs.declared.error.PbcError.TheVariants.{the_data as PbcError, BadText, NoGateRoom}
