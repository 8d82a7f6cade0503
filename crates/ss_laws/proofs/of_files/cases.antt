pub mod SmallFiles
pub mod SmallChain
