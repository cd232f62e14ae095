-- The definitions that contracts cite, and their laws.
pub mod Recording
pub mod MeteringLaws
pub mod RecordingLaws
