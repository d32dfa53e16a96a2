pub mod Covered
pub mod Laws
pub mod Sides
pub mod Results
