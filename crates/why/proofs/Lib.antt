pub mod ReasonLaws
pub mod AnswerLaws
