pub mod Columns
pub mod Seen
pub mod Ids
pub mod Walk
