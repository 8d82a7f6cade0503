pub mod Questions
pub mod Shortened
