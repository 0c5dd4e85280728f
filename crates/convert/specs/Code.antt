-- What the functions that are not public ask of each other: what they do to the lent words, where these lie. No public promise and no theorem cites it.
pub mod RawPlanes
pub mod Needs
pub mod Raw
pub mod Tables
pub mod Lists
pub mod Counting
pub mod Writing
pub mod Marks
pub mod Images
pub mod Flush
pub mod PlaneGates
pub mod Converting
pub mod Parts
pub mod Passed
