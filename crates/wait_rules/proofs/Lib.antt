pub mod Steps
pub mod Kept
