pub mod Index
pub mod Bins
pub mod Strips
