-- What belongs to no one function.
mod Tests
mod Models
