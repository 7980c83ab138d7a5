-- The printed form of an answer.
pub mod Lines
pub mod Printed
pub mod Places
pub mod PrintedLaws
pub mod Sizes
pub mod Record
pub mod Writer
