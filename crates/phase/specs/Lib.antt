pub mod Refusals
pub mod Operation
pub mod Settings
pub mod State
pub mod Tick
pub mod Ticks
pub mod device
