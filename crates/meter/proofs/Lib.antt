-- Lemmas of the proofs.
pub mod Offers
