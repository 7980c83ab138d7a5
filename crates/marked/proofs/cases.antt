-- What the proof of `for_each` uses.
mod Calls
