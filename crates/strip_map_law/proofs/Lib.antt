pub mod Scattered
pub mod Rounded
pub mod Labelled
pub mod Whole
