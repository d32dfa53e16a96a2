pub mod PairCounts
pub mod SweepLaws
