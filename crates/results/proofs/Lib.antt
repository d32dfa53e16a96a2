pub mod Sending
pub mod Lines
pub mod Results
pub mod LineParts
pub mod Folds
pub mod EdgeLines
pub mod Answering
