pub mod Decimal
pub mod Numbers
pub mod Bytes
pub mod Places
pub mod Lines
pub mod Splice
pub mod Placed
mod Examples
pub mod FiveLines
