-- What the words mean: nodes and frame words as rows, the conversion in words as the plain one, and that as the papers' own. From the bottom up.
pub mod Nodes
pub mod FrameRows
pub mod StartRows
pub mod Words
pub mod Formed
pub mod Numbers
pub mod Papers
pub mod Signs
pub mod Pending
pub mod Sources
pub mod Cap
pub mod Routing
pub mod Repeats
pub mod Targets
pub mod Operations
pub mod Lowered
