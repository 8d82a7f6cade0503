pub mod Members
pub mod Ordered
pub mod Tails
pub mod Joined
pub mod Steps
pub mod Lines
pub mod Speaking
