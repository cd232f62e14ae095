-- The lettered figures of document 01, and the test over them. That they hold is proved in proofs/TableLaws.
pub mod Rows
pub mod Table
pub mod RowLaws
