-- Why neighbours tell whether a set fixes another.
pub mod Follows
pub mod Neighbours
