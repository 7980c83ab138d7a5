-- Tables that mean the same have the same right answers.
pub mod SameWays
pub mod SameAnswers
pub mod SameCalls
pub mod Undivided
pub mod OverOne
