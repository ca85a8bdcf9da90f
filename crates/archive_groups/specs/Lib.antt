-- The groups of a slot as cells in bytes.
pub mod Masks
pub mod Groups
