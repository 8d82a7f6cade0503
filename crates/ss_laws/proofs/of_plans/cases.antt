pub mod SavedRows
pub mod SmallPlan
