-- What the proofs of the spanning forest use.
pub mod Numbers
pub mod Rooting
pub mod Starting
pub mod Following
pub mod Extending
pub mod Passing
pub mod Spanning
