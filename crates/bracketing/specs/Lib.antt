-- Both ways of bracketing the join of three tables.
pub mod PermutationLaws
pub mod Brackets
pub mod BracketedAnswers
pub mod BracketedCalls
