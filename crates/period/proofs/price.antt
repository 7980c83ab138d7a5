-- What the proof of `price` uses.
mod Filled
