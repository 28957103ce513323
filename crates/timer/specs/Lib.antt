pub mod State
pub mod Refusals
pub mod Inputs
pub mod Answer
pub mod Rules
pub mod Timer
