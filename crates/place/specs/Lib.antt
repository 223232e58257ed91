pub mod Words
pub mod Shapes
pub mod Calls
pub mod Plain
