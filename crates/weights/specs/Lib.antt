-- The weights of a table, and what its ratios come to.
pub mod LeastRows
pub mod Weighed
pub mod Scaled
pub mod Ratios
