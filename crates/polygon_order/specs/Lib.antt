pub mod Order
pub mod Shells
