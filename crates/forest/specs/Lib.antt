-- A spanning forest of a table's links: rows of exponents that fit it, and the loop that another link closes.
pub mod Forest
pub mod PortRows
pub mod Parts
pub mod Spreading
pub mod Agreement
pub mod Conflicting
pub mod StepNumbers
pub mod Loop
pub mod Climb
