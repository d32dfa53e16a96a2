-- The pieces that a ring is cut into where it visits a vertex again.
pub mod Pieces
pub mod Stacks
pub mod Cutting
pub mod Mapping
pub mod Neighbours
pub mod Beginnings
pub mod FirstPiece
