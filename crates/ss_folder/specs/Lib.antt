pub mod Events
pub mod Names
pub mod Replay
pub mod ReplayLaws
