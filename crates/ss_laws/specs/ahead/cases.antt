pub mod LostLog
pub mod SmallPending
