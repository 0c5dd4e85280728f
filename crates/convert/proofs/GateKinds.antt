-- Laws of the kinds of gates: matches over them, numbers outside the list, tables by number, the checks of their operands and targets.
pub mod Chunks
pub mod Arms
pub mod Unlisted
pub mod Entries
pub mod Marks
pub mod Targets
pub mod Checks
pub mod Forms
