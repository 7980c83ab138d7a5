-- Laws of ways, components and weights, and what labels and agreement are.
pub mod WayLaws
pub mod Agree
pub mod WeightLaws
pub mod AgreeLaws
pub mod Labels
pub mod Passes
pub mod Scaling
pub mod WholeLaws
