pub mod ExplanationLaws
pub mod DecidedLaws
