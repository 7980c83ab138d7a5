-- What belongs to no one function.
mod Counting
