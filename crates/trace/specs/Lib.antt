pub mod HeaderAt
pub mod Op
pub mod OpAt
pub mod Reading
pub mod Record
pub mod RecordAt
pub mod Trace
pub mod Version
