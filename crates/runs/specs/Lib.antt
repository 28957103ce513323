pub mod Configuration
pub mod Portions
