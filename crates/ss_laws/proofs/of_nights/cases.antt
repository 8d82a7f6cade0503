pub mod SmallWholeNights
