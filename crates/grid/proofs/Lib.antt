pub mod Columns
pub mod Giving
pub mod Rows
pub mod TriedSides
