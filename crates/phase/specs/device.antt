pub mod Ranges
pub mod Pace
pub mod Closed
