-- What the proof on the parts of ratios uses.
mod Most
