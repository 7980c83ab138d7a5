-- Three files in turn.
pub mod Files
pub mod FilesLaws
