pub mod SameNames
pub mod RaisedReaches
pub mod LeastReach
pub mod Suspects
