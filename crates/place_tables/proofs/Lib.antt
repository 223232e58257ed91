pub mod Cleared
pub mod Checked
