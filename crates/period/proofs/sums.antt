-- What the proof of `sums_of` uses.
mod Total
mod Summed
