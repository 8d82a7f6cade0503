pub mod SmallBlocks
pub mod LostLog
pub mod SmallCounters
pub mod SmallPending
