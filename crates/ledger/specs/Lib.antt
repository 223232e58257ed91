pub mod Agree
pub mod Kept
pub mod List
pub mod Said
