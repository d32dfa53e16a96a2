pub mod Tiles
pub mod Bins
pub mod Sides
