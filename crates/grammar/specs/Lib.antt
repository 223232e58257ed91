pub mod Names
pub mod Items
pub mod Named
pub mod Texts
pub mod Grammar
