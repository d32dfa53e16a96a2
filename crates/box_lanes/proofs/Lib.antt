pub mod PlaceLaws
pub mod LaneLaws
pub mod BoxLaws
pub mod HullLaws
