pub mod Courses
pub mod Running
pub mod Room
pub mod Fits
