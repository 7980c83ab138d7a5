-- What the proof of `edge::at` uses.
pub mod Read
