pub mod SmallRun
pub mod SmallRunsAhead
