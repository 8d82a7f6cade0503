pub mod Reported
pub mod Places
pub mod Restarts
pub mod LastCounters
pub mod PendingAhead
pub mod RisingGbc
pub mod cases
