-- Devices of the code and of its proofs.
pub mod Plan
pub mod Memo
pub mod Course
