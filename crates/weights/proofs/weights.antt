-- What the proofs of the weights use.
pub mod Lessening
pub mod Difference
pub mod Smallest
pub mod Same
pub mod Bounded
pub mod Weighted
