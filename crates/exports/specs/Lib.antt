-- The definitions that contracts cite, and their laws.
pub mod Lists
pub mod Answers
pub mod ListLaws
pub mod LentNumberLaws
pub mod OrderLaws
pub mod PlanLaws
pub mod MeterLaws
pub mod FigureLaws
pub mod BookLaws
