pub mod Calls
pub mod Closing
