pub mod Laid
pub mod Called
pub mod Shaping
