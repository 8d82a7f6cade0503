pub mod Completed
pub mod Described
pub mod Places
pub mod Laws
pub mod Object
pub mod Lines
pub mod FaultCode
pub mod Runs
