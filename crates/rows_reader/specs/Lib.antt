pub mod Reading
pub mod RowsRead
