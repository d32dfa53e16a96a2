pub mod Boxes
pub mod Near
pub mod Picked
pub mod Chosen
pub mod Adding
pub mod OwnLaws
