pub mod Sets
pub mod Covers
pub mod Visited
pub mod Blocks
pub mod Exchange
pub mod Key
pub mod Trees
pub mod Ends
