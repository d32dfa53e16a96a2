pub mod Columns
pub mod Boxes
pub mod Meeting
pub mod Above
pub mod Probe
pub mod Edges
pub mod Sides
pub mod Hulls
