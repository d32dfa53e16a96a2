pub mod Tested
pub mod Words
