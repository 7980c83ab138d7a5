-- What the proofs of the writer use.
mod Copying
mod Digits
pub mod Part
