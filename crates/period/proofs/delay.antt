-- What the proof of `delay` uses.
mod Bounds
