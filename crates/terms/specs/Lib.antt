-- The definitions that contracts cite, in reading order, and their laws.
pub mod Answer
pub mod Refusals
pub mod Limits
pub mod Ranges
pub mod RangeRules
pub mod Records
pub mod Lent
pub mod AnswerLaws
pub mod ChooseLaws
pub mod Bools
pub mod RangeLaws
pub mod LentLaws
pub mod RefusalLaws
