-- Laws of the later calls: the table after them, what they leave to be read, and calls given as words.
pub mod Table
pub mod Readable
pub mod Operations
pub mod Converted
pub mod Words
pub mod Headers
