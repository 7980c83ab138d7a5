-- What the proofs of the preview use, and the smallest previews.
mod InputBytes
mod Outcomes
mod Cases
