-- Rows in one flat list of words.
pub mod Rows
pub mod Slices
