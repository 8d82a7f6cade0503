pub mod Ascii
pub mod Code
pub mod Cut
pub mod Number
pub mod StrictBase64
