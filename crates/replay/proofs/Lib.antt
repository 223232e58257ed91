pub mod Ends
pub mod Unique
pub mod Whole
pub mod Parts
pub mod Next
pub mod Pieces
pub mod Sending
pub mod Ending
