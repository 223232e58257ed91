pub mod Laws
mod Reading
mod Examples
