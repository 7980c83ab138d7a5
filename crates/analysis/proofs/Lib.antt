-- What the proofs of the analysis use.
mod Outcomes
mod Ordering
