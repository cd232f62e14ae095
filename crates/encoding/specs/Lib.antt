-- The definitions that contracts cite, in reading order, and their laws.
pub mod Number
pub mod Header
pub mod NumberLaws
pub mod HeaderLaws
pub mod StoreLaws
pub mod FillLaws
