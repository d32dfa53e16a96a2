pub mod Links
pub mod Gathered
pub mod Numbers
pub mod Orders
pub mod Spans
pub mod Shares
pub mod Ends
