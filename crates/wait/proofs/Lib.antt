pub mod Waits
pub mod Running
pub mod Told
mod Examples
