-- How a table stands in slices, what reading leaves there, and what is known of a table that was read.
pub mod WellFormed
pub mod RecordLaws
pub mod Found
pub mod Slices
pub mod SliceLaws
pub mod Held
pub mod ReadingLaws
pub mod FaultLaws
pub mod Filled
pub mod FilledLaws
