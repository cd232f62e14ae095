-- The definitions that contracts cite, in reading order, and their laws.
pub mod Cost
pub mod Preference
pub mod Rates
pub mod Single
pub mod CostLaws
pub mod PreferenceLaws
pub mod BestLaws
pub mod SingleLaws
pub mod RateLaws
