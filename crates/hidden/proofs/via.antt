-- What the proof of `any_leaves` uses.
mod Pairs
