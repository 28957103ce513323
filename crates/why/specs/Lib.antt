pub mod Refusals
pub mod Reason
pub mod Answer
pub mod device
