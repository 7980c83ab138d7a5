-- What the proofs of the scaled weights use.
pub mod Multiplying
pub mod Conditions
