-- What the proofs of the writers use.
mod Laws
