pub mod Marks
pub mod Number
pub mod Field
pub mod device
