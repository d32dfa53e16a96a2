-- The written rings in the order of the text, and their polygons.
pub mod Places
pub mod PlacedRings
pub mod Openings
pub mod Entries
pub mod Grouping
pub mod Telling
pub mod Assembled
pub mod Ordered
