pub mod LineLaws
pub mod TakeLaws
pub mod ConfigLaws
pub mod WrittenLaws
