pub mod Scattered
pub mod Nearest
pub mod Records
pub mod Bridged
pub mod Merged
pub mod Labels
