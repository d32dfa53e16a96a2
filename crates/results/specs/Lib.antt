pub mod Sinks
pub mod Texts
pub mod LineParts
pub mod Results
