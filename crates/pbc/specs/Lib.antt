-- What the command's functions compute: names as numbers, words of buffers, the state and its answers, and the tests of a line.
pub mod Names
pub mod Buffers
pub mod State
pub mod Lines
pub mod Handles
pub mod Plain
pub mod Builder
pub mod Qasm
