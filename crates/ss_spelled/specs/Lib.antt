pub mod Orders
pub mod Spelled
pub mod Fronts
pub mod Search
pub mod Requests
pub mod Answers
pub mod FaultCode
pub mod Runs
