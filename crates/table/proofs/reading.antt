-- What the proofs of `read_on` and `read_table` use.
mod Filling
mod Turn
