pub mod Tied
pub mod Examples
