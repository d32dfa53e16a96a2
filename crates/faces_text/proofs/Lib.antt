pub mod OneText
pub mod Fields
pub mod Line
