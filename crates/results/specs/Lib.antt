-- The components, periods, starts and sizes of a table as numbers, and what naming a floor and a block asks.
pub mod Kept
pub mod Sizes
pub mod Named
pub mod Held
