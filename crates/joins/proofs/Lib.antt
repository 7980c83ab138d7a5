-- What the proofs of `write_joined` and `join` use, and small joins by computation.
mod Outcomes
mod Cases
