pub mod Pinned
pub mod Stands
pub mod Claimants
pub mod Finding
