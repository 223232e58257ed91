pub mod Eight
pub mod Inverse
pub mod Chunks
