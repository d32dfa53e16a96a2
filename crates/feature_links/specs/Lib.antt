pub mod Odd
pub mod Groups
