pub mod Fault
pub mod Reader
pub mod device
