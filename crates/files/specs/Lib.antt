pub mod Replay
pub mod device
