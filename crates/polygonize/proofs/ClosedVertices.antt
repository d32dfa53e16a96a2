-- Whether edges close at a vertex, by the order of their ends round it.
pub mod Ends
pub mod Going
pub mod Round
pub mod Found
