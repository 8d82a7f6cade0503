pub mod NightRows
pub mod SmallWholeNights
