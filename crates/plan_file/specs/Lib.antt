-- The definitions that contracts cite, and their laws.
pub mod Plan
pub mod RecordLaws
pub mod PlanRules
pub mod PlanLaws
pub mod CallLaws
