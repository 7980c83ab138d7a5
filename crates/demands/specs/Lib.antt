-- The theorems: every right answer meets the demands.
pub mod ConstraintLaws
pub mod AnswerCases
pub mod SolutionLaws
pub mod Demands
pub mod Room
pub mod SamePeriod
pub mod NoLeastLaws
pub mod Demand2Laws
pub mod CaseLaws
pub mod SizeLaws
pub mod Reordered
pub mod OrderLaws
pub mod OneAnswer
pub mod BoundedChains
pub mod WaitLaws
pub mod TightPeriod
pub mod Demand3Laws
