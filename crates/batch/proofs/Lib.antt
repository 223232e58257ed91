pub mod Walk
pub mod Exactly
pub mod Removal
pub mod Rows
pub mod Examples
