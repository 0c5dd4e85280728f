-- What the functions that are not public ask of each other, and what their words stand for while they run. No public promise cites it, and of the theorems only those about the words and the uses of a walk.
pub mod Stored
pub mod Turns
pub mod Machine
pub mod Results
pub mod WalkWords
pub mod Records
pub mod Roots
