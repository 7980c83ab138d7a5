-- Laws of numbers as bytes, and of what is written to a buffer.
pub mod Lengths
pub mod WrittenLaws
pub mod NumberLaws
