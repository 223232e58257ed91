pub mod Choice
pub mod Tiles
