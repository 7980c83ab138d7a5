-- What a read of an input comes to.
pub mod Input
pub mod ReadInto
