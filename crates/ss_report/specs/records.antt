pub mod Record
pub mod Plain
pub mod Json
pub mod Written
pub mod Fields
