pub mod Batch
pub mod Batched
pub mod Removal
