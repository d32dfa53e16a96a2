pub mod Bounds
pub mod Ties
pub mod Apart
pub mod Law
