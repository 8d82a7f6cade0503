pub mod Originals
pub mod Wraps
