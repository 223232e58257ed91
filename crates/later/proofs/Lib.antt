pub mod Later
pub mod Ends
pub mod Examples
