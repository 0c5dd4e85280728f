-- The functions for C: how words stand for values (Words), what each function returns and leaves (Exports, Readers, Conversion, Texts).
pub mod Types
pub mod Words
pub mod Exports
pub mod Readers
pub mod Conversion
pub mod Texts
