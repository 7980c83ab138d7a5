-- The links at a port by their numbers, the lowered rate, the new connections, and the ports and links of the table without the port.
pub mod Picked
pub mod Any
pub mod Parted
pub mod Limits
pub mod ViaParts
pub mod Made
pub mod Sizes
pub mod Without
pub mod OfSides
pub mod HiddenIn
