pub mod Range
pub mod Checks
