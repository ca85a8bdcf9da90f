-- Why an archive is read right.
pub mod Reading
