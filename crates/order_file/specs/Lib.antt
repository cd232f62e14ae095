-- The definitions that contracts cite, and their laws.
pub mod Order
pub mod OrderRules
pub mod OrderLaws
pub mod Ordered
pub mod OrderedLaws
