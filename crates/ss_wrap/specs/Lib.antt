pub mod Wrap
pub mod Laws
