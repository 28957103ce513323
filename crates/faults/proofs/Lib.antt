pub mod PassedLaws
pub mod FaultLaws
pub mod RightLaws
pub mod PlaceLaws
pub mod LineLaws
pub mod ReadingLaws
