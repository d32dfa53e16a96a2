-- The nearest edges below vertices.
pub mod GapsBelow
pub mod Nearness
pub mod Columns
pub mod Ladders
pub mod Searching
pub mod Short
pub mod Floors
pub mod Reaching
