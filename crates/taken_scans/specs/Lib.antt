pub mod Found
pub mod Taken
