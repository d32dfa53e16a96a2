pub mod Verdicts
pub mod Search
pub mod Passes
