-- How many rows share the cells of each set, as the check of an archive finds it.
pub mod Sharing
