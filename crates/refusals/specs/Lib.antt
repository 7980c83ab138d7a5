-- The numbers of refusals, and what a call returns of a fault.
pub mod Numbers
pub mod Faults
