pub mod StrangerRows
pub mod SmallAttack
pub mod SmallListing
pub mod SmallUnforged
pub mod SmallUntrusted
pub mod SmallForged
pub mod SmallAnswers
