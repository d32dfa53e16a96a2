pub mod OddLaws
pub mod GroupLaws
pub mod GroupSteps
pub mod Standing
