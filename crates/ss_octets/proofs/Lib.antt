pub mod Numbers
pub mod Base64Text
pub mod Members
