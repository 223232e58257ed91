pub mod Walked
pub mod Shows
pub mod Agreed
