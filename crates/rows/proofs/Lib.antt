pub mod AnswerNumbers
pub mod NumberedLaws
pub mod RowLaws
pub mod SettingsLineLaws
pub mod FrontLaws
pub mod FrontReading
pub mod FrontRowLaws
pub mod MappedErr
