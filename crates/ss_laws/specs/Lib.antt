pub mod ahead
pub mod carry
pub mod files
pub mod nights
pub mod parts
pub mod plans
pub mod runs
pub mod strangers
