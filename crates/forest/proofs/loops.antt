-- What the proofs of the loops use.
mod Inserted
mod Standing
mod Copying
pub mod Starting
mod Leaving
mod Turns
pub mod Writing
pub mod Ending
