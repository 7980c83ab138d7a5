-- What the proofs of the whole text use.
mod Lines
