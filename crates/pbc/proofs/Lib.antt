-- Laws that the proofs of the functions cite.
pub mod BufferWords
pub mod TextBytes
pub mod TextKept
