pub mod Taken
pub mod Shows
