pub mod Numbers
pub mod OpNumbered
