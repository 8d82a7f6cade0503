pub mod EntriesBetween
pub mod ToldSessions
pub mod CarriedBlocks
pub mod Carried
