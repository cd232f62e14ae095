-- The theorem of the table.
pub mod TableLaws
