pub mod Course
pub mod Part
