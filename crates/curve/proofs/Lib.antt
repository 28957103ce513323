pub mod LongDivision
pub mod RoundingLaws
pub mod TimeLaws
pub mod RatioLaws
pub mod GainLaws
pub mod OrderLaws
pub mod LeastGainLaws
