-- Bucket records in a list, and their laws.
pub mod Held
pub mod HeldLaws
pub mod PartLaws
