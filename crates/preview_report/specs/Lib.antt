-- The text of a preview.
pub mod PreviewReport
