pub mod SmallChain
