-- Devices of the code and of its proofs.
pub mod Lower
pub mod Ready
pub mod Quick
pub mod Pass
