-- OpenQASM 2 text to gate records.
-- In order: bytes (Bytes), how tokens are laid out (Tokens), signs, words and names (Names), statements and what a text says (Text),
-- the reader as a function (Reading), what the call answers and leaves (Answers), what is claimed (Claims), a place as line and column (Position). Code is what functions that are not public ask of each other.
pub mod Types
pub mod Bytes
pub mod Tokens
pub mod Names
pub mod Text
pub mod Reading
pub mod Answers
pub mod Claims
pub mod Position
pub mod Code
