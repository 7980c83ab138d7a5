-- What the proof of `ratios_of` uses.
pub mod Decided
pub mod Unit
