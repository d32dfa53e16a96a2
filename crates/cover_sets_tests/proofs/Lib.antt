pub mod Evens
pub mod Bordering
pub mod Sweeping
