pub mod StatusLaws
pub mod StatusMeans
pub mod WriterLaws
pub mod ReaderLaws
pub mod BackLaws
