-- What the writers of a table ask, and that what they write is read back.
pub mod Bounded
pub mod EncodingLaws
pub mod SoFar
pub mod RecordBack
pub mod ReadBack
