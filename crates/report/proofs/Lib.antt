-- What belongs to no one function.
mod Texts
mod Examples
