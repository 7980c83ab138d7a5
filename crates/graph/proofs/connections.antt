-- What the proofs of `write_owners` and `sort_connections` use.
mod Owned
