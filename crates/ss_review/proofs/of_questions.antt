pub mod AskedShared
pub mod NeededBlocks
pub mod AskableBlocks
pub mod AgreeingSchemes
