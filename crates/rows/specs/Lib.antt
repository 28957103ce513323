pub mod Refusals
pub mod Widths
pub mod Refusal
pub mod Numbered
pub mod Row
pub mod SettingsLine
pub mod device
