-- Laws by subject, from the bottom up; the claims themselves are in Theorems.
pub mod GateKinds
pub mod Packed
pub mod Buffers
pub mod Counts
pub mod Meaning
pub mod Accepted
pub mod Calls
pub mod HandCircuits
pub mod Thirteen
pub mod ReplacedChecks
pub mod Replaced
pub mod Examples
pub mod Theorems
pub mod LaterExamples
pub mod Pins
pub mod RoutedPins
