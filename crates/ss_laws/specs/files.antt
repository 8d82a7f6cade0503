pub mod Files
pub mod Links
pub mod ChainLaws
pub mod cases
