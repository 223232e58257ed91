pub mod Rows
pub mod Deeds
