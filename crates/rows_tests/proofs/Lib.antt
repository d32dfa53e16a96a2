pub mod Readying
