-- The definitions that contracts cite, and their laws.
pub mod Meter
pub mod MeterLaws
pub mod MeterRuns
