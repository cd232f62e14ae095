-- The definitions that contracts cite, in reading order, and their laws.
pub mod Step
pub mod Trace
pub mod Trial
pub mod Least
pub mod Laws
pub mod TrialLaws
