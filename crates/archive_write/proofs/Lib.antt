-- The sections of an archive, and its length.
pub mod Archive
