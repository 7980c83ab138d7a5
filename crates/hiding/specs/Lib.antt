-- What hiding a port comes to.
pub mod Hides
