pub mod Deciding
pub mod Signed
