pub mod Refusals
pub mod Shape
pub mod Line
pub mod Config
pub mod Reader
pub mod device
