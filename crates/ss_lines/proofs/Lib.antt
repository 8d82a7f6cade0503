pub mod MoreLines
