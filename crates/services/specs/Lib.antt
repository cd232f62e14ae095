-- The definitions that contracts cite, and their laws.
pub mod Services
pub mod ServiceLaws
