-- Lemmas on bounded products, for the proofs of the functions of src/product.rt.
mod Bounded
