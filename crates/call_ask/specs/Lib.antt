-- What the code knows of an accepted archive.
pub mod Accepts
