-- What is known of a preview.
pub mod PreviewDemands
