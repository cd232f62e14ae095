-- The definitions that contracts cite, and their laws.
pub mod Decimal
pub mod Figures
pub mod DecimalLaws
pub mod LimitLaws
