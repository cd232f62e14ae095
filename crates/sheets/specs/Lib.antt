-- The definitions that contracts cite, in reading order, and their laws.
pub mod Sheet
pub mod RunLaws
pub mod SpareLaws
pub mod LengthLaws
pub mod SheetLaws
