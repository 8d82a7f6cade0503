pub mod Strangers
pub mod Reaches
