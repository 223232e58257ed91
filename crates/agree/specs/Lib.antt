pub mod Both
pub mod Traces
