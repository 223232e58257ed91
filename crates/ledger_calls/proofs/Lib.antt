pub mod Tells
pub mod Reserving
pub mod Viewing
pub mod Left
