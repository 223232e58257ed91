pub mod Output
pub mod Wrote
