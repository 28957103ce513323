pub mod Constants
pub mod Rounding
pub mod Ratio
pub mod Time
pub mod Gain
