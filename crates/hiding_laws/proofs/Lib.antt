-- Hiding by computation.
mod Examples
