-- What the proofs of `write_ports` and `write_buffers` use.
pub mod Ports
pub mod Buffers
