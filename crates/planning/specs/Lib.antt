-- The definitions that contracts cite, in reading order, and their laws.
pub mod Planning
pub mod PlannedLaws
pub mod CallLaws
