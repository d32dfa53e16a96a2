pub mod Oks
pub mod Consecutive
pub mod Answering
