-- Lemmas of the proofs.
pub mod Loading
pub mod Weighing
