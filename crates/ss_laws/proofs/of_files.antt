pub mod OneLink
pub mod Chains
pub mod cases
