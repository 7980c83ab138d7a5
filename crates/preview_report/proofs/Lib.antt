-- What the proofs of the text of a preview use.
mod Texts
