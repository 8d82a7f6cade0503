pub mod of_reading
pub mod of_writing
pub mod of_reports
pub mod of_carrying
pub mod of_strangers
