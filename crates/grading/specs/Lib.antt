pub mod Refusals
pub mod Refusal
pub mod FirstTrip
pub mod Margin
pub mod Margins
pub mod device
