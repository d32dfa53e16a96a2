pub mod Weights
pub mod Touch
pub mod Noded
pub mod Routes
pub mod Rounding
