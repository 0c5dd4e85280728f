-- The conversion is its circuit, as operators.
-- From the reader's end: what operators are (Operators), the gates of a textbook and a circuit of them (Textbook), the conversion (Whole) and the later calls (After)
-- as operators, the classical bits of measurements (Bits); then the matrices of size 2ⁿ (Model) over Z[½, ω] (Dyadic).
pub mod Types
pub mod Operators
pub mod Textbook
pub mod Whole
pub mod After
pub mod Bits
pub mod Model
pub mod Dyadic
