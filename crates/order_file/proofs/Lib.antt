-- Lemmas of the proofs.
pub mod Demands
