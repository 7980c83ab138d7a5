-- The slices of a table's components, and what the search over them says of the table's own graph.
pub mod Owners
pub mod OwnersLaws
pub mod Arranged
pub mod Searched
pub mod Numbered
pub mod NumberedLaws
pub mod SliceLaws
pub mod SearchedLaws
pub mod ArrangedLaws
