pub mod Log
pub mod SoFar
pub mod Fed
pub mod Picked
pub mod Held
pub mod HeldLog
pub mod Writing
