pub mod StatusRead
