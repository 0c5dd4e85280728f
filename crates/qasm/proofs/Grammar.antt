-- What the grammar lays is what the reader takes, from blanks to whole texts.
pub mod Blanks
pub mod Decimals
pub mod Tokens
pub mod Phrases
pub mod Operands
pub mod Names
pub mod Gates
pub mod Lengths
pub mod Steps
pub mod Stages
pub mod Readings
pub mod Verdicts
