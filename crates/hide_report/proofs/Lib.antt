-- What belongs to no one function.
mod Reported
mod Digits
mod Examples
