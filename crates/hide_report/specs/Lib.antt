-- What the hide program writes.
pub mod PortArgument
pub mod HideReport
