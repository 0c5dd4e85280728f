-- The arena of a circuit: what its words stand for, what its calls do.
-- From the reader's end: what things are (Limits, Errors, References, Nodes, Operations), what is tested (Store), what calls do (Builder), what is claimed (Calls).
-- Then how products are expanded: sparse products (Sparse), the pool that holds them (Pool, PoolSteps, PoolRuns), the walk (Walk), what it charges and reaches (Charges, Reachability),
-- what is read from it (Readers), what the readers answer and leave (Expansion), what the numbers of a report are (Reports), how work is charged (Stats). Code is what functions that are not public ask of each other.
pub mod Types
pub mod Limits
pub mod Errors
pub mod References
pub mod Nodes
pub mod Operations
pub mod Store
pub mod Builder
pub mod Calls
pub mod Sparse
pub mod Pool
pub mod PoolSteps
pub mod PoolRuns
pub mod Walk
pub mod Charges
pub mod Reachability
pub mod Readers
pub mod Expansion
pub mod Reports
pub mod Stats
pub mod Code
