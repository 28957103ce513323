pub mod Refusals
pub mod Configuration
pub mod Output
pub mod Progress
pub mod device
