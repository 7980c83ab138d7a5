-- What the proofs on agreement use.
pub mod Compared
pub mod Parallels
