-- What the contracts of this crate cite, and the laws of primes and rows that it offers the crates above.
pub mod Tests
pub mod Divisors
pub mod Primes
pub mod Factor
pub mod Row
pub mod Powers
pub mod RowLaws
pub mod Product
