-- What the proofs of `greatest_limit` and `limit_of` use.
mod Value
mod Below
mod Read
mod Leading
