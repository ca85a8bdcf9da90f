-- What stands at a place in an archive.
pub mod Sections
