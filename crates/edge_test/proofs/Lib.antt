pub mod Bounding
pub mod Alike
