pub mod Names
pub mod Said
