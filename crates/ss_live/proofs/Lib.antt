pub mod Going
pub mod Calls
pub mod Appending
pub mod Whole
pub mod Showing
