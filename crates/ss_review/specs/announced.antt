pub mod Announced
pub mod Announcing
pub mod Numbered
pub mod Indexed
