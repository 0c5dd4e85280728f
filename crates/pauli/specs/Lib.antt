-- The Pauli operators, the Clifford gates that act on them, and the plain table of document 01.
-- From the reader's end: what things are (Letters, Angle, Rows), the two papers' rules (Gates, Bits, Rotations, Doubly),
-- the table (Table), and what six cnots make of it (SixCnots).
pub mod Letters
pub mod Angle
pub mod Rows
pub mod Gates
pub mod Bits
pub mod Rotations
pub mod Doubly
pub mod Table
pub mod SixCnots
