pub mod Shape
pub mod Answers
mod Examples
