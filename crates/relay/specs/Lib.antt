pub mod Refusals
pub mod State
pub mod Outputs
pub mod Tick
pub mod device
