pub mod of_ahead
pub mod of_carry
pub mod of_files
pub mod of_nights
pub mod of_parts
pub mod of_plans
pub mod of_runs
pub mod of_strangers
