-- What the analysis of a table promises, what timing its components does, and the demands that follow.
pub mod Ordered
pub mod Timed
pub mod Decided
pub mod ShownLaws
pub mod AnalysedLaws
pub mod DemandedLaws
