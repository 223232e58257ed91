pub mod Later
pub mod Ends
