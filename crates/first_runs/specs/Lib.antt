-- The definitions that contracts cite, in reading order, and their laws.
pub mod Outline
pub mod Charge
pub mod OutlineLaws
pub mod ChargeLaws
pub mod SearchLaws
pub mod WeighLaws
pub mod Search
