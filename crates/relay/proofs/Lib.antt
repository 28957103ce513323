pub mod RelayLaws
pub mod RefusalLaws
pub mod OutputLaws
