pub mod Cases
pub mod Tests
pub mod LowestLaws
pub mod PassedLaws
