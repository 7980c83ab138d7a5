-- What the proofs of the records use.
mod Fronts
mod Period
