pub mod Choices
pub mod Rows
pub mod Unique
