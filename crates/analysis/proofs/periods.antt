-- What the proofs of timing the components use.
mod Components
mod Keeping
mod Turns
