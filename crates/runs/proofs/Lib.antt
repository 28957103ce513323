pub mod ConfigurationLaws
