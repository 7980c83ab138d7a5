-- Lemmas on rows, for the proofs of the functions of src/row.rt.
mod Factors
