pub mod Below
pub mod Lookups
