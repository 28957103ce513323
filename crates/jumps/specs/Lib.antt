pub mod Refusals
pub mod Jump
pub mod device
