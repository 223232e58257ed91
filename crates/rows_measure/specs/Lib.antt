pub mod Judged
pub mod Measured
pub mod Measuring
pub mod TwoLines
