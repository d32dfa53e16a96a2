pub mod Places
pub mod Sides
