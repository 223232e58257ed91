pub mod Texts
pub mod Judging
pub mod Answering
pub mod Laws
mod Examples
