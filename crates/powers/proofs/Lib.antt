pub mod Tables
pub mod PowerRule
pub mod PowerTable
