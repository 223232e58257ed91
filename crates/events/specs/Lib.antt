pub mod Event
pub mod EventAt
pub mod Kind
pub mod Laws
pub mod Reading
pub mod Wait
