pub mod Range
pub mod Wording
