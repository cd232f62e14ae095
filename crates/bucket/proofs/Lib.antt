-- What the proofs share.
mod Walking
