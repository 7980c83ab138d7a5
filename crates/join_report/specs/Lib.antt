-- What the join program writes.
pub mod JoinReport
