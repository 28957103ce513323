pub mod MarkLaws
pub mod NumberLaws
pub mod FieldLaws
