pub mod Layout
pub mod Refusals
pub mod Faults
pub mod Segments
pub mod Answers
pub mod Reach
