-- The conversion of a gate list, and the calls after it.
-- From the reader's end: gate records (Records); the conversion in letters and phases, by a table (Plain) and by the two papers alone (Paper);
-- in words (Frame, Words); what lowered gates do (Lowering); bit planes (Planes); its checks, answer and buffers (Conversion);
-- the later calls (Later), and as words (LaterWords); what is claimed (Statement), of the gate that an operation names (Sources), of measurements into one bit (Targets) and of weights and signs (Routing);
-- ccz and ccx as gates with short axes (Thirteen); circuits followed by hand (Circuits).
-- Code is what functions that are not public ask of each other.
pub mod Types
pub mod Records
pub mod Plain
pub mod Paper
pub mod Frame
pub mod Words
pub mod Lowering
pub mod Planes
pub mod Conversion
pub mod Later
pub mod LaterWords
pub mod Statement
pub mod Sources
pub mod Targets
pub mod Routing
pub mod Thirteen
pub mod Circuits
pub mod Code
