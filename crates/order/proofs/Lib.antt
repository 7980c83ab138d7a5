-- What the proofs of the sort use.
mod Steps
