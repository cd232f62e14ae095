-- The definitions that contracts cite, and their laws.
pub mod Check
pub mod WeighLaws
pub mod VerdictLaws
pub mod CheckLaws
pub mod CallLaws
pub mod OwnLaws
pub mod InputLaws
