pub mod Five
pub mod Whole
mod Examples
