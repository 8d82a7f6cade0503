pub mod Between
pub mod Bounds
