-- Laws first; the claims themselves are in Theorems.
pub mod Gates
pub mod Refusals
pub mod Theorems
