-- Laws of the pool's chains, and what each function of src/pool.rt does to them. From the bottom up.
pub mod Letters
pub mod Laws
pub mod Parts
pub mod Moves
pub mod Merge
pub mod Ends
pub mod Apart
pub mod Safe
