-- Laws of the lent buffers: what the code does there is what the conversion in words does. From the bottom up.
pub mod Frame
pub mod Flush
pub mod Words
pub mod Seven
pub mod State
pub mod Writing
pub mod Reads
pub mod Did
pub mod Clifford
pub mod Conversion
