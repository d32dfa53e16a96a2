pub mod SegmentLines
pub mod Pairs
