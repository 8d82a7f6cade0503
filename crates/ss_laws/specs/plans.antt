pub mod Known
pub mod ReadBack
pub mod FileStarts
pub mod SealedPlans
pub mod cases
