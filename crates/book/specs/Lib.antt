-- The definition that the contract of this program's booking cites.
pub mod Filed
