-- What the proofs of the records of number 15 use.
mod Named
mod Short
