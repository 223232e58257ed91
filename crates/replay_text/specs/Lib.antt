pub mod Replay
pub mod Tied
pub mod Examples
