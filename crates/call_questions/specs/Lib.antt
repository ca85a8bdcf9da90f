-- Questions to an archive.
pub mod Questions
