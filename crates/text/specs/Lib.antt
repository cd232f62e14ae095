-- The definitions that contracts cite, in reading order, and their laws.
pub mod Numeral
pub mod Megabits
pub mod Lines
pub mod Fitted
pub mod NumeralLaws
pub mod MegabitsLaws
pub mod PutLaws
pub mod ChainLaws
pub mod FittedLaws
pub mod LineLaws
