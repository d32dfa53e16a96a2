pub mod Cover
pub mod Borders
pub mod Rows
pub mod Areas
pub mod Changing
pub mod Laws
pub mod Faces
