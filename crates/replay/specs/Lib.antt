pub mod Into
pub mod Replayed
pub mod Sent
pub mod Went
