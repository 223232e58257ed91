pub mod Pinned
pub mod Released
