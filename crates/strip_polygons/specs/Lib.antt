pub mod Classes
pub mod Parting
pub mod Strips
pub mod Ranges
