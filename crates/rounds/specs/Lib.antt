-- Walks and cycles of a constraint graph, rounds of starts, and what they come to.
pub mod Walks
pub mod Rounds
pub mod Trails
pub mod Costs
pub mod Starts
pub mod StartsLaws
pub mod Relax
pub mod Advance
pub mod Tight
pub mod Back
