-- The types of the crate pauli, under the names that its own specifications use.
pub use Rattle.pauli.specs.declared.pauli.Phase.TheVariants.{the_data as Phase, One, I as PlusI, MinusOne, MinusI}
pub use Rattle.pauli.specs.declared.pauli.Pauli.TheVariants.{the_data as Pauli, I, X, Y, Z}
pub use Rattle.pauli.specs.declared.angle.PauliAngle.{PauliAngle}
