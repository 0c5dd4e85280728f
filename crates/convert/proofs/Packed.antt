-- Laws of the planes: packed tables, what gates and restarts do to them, and what is tested there. From the bottom up.
pub mod Words
pub mod Tables
pub mod Since
pub mod Tests
pub mod Within
pub mod Deciding
pub mod Products
