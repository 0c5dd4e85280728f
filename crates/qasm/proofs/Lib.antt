-- Laws by subject, from the bottom up.
pub mod Truth
pub mod Tries
pub mod Answered
pub mod Runs
pub mod Passes
pub mod Grammar
pub mod Examples
pub mod Theorems
