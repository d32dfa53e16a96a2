pub mod Chosen
pub mod Sides
pub mod Striping
pub mod Sets
