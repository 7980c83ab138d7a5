-- Hiding a port keeps the times of the other ports: `SameTimes` has the theorem, `IsHidden` that the table of the definitions is the hidden one.
pub mod TestLaws
pub mod PortNumbers
pub mod HiddenOf
pub mod Costs
pub mod Restricted
pub mod Extended
pub mod HiddenWeights
pub mod SameTimes
pub mod LowestLaws
pub mod ViaLaws
pub mod SlowLaws
pub mod ListLaws
pub mod PortLaws
pub mod IsHidden
pub mod HiddenFits
pub mod NumberKept
pub mod HideDemands
