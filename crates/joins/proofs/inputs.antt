-- What the proofs of reading the inputs use.
mod Held
