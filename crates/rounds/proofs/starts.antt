-- What the proofs of the rounds use.
mod Relaxed
mod Partly
mod Buffer
mod RoundsMade
