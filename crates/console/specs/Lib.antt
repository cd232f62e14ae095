-- What the contracts of the programs' reading cite.
pub mod Counts
