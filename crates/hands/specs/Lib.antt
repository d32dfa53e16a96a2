pub mod Consecutive
pub mod Idle
