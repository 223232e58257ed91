pub mod Filling
pub mod Answering
