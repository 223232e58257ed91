pub mod Named
pub mod Put
pub mod Step
