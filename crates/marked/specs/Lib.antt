-- What a room is looked at for, and the calls that take the cases on an input.
pub mod Changed
pub mod Cases
