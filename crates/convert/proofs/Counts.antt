-- Laws of what a conversion needs: record by record, counted, and summed. From the bottom up.
pub mod Parts
pub mod RecordSteps
pub mod Rest
pub mod Light
pub mod Sums
pub mod Needs
pub mod Chunks
