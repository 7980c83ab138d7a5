-- What the proofs of the components use.
mod Owned
mod Lowering
mod Passing
mod Lowest
