-- A program of OpenQASM 2 as the conversion takes it.
pub mod Types
pub mod Programs
