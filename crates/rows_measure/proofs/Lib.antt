pub mod Lengths
pub mod Walking
