pub mod Assigned
pub mod Listing
pub mod Assigning
pub mod StoredHashes
