pub mod Flight
pub mod Held
