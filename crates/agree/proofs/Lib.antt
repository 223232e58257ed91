pub mod Named
pub mod Runs
pub mod Side
