pub mod Refusals
pub mod Status
pub mod RecordRow
pub mod Writer
pub mod Reader
pub mod device
