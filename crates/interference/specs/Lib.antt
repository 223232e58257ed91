pub mod Interference
pub mod AfterWait
pub mod Meanwhile
