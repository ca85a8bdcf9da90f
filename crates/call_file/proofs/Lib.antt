-- Base rows of two lists, filed as one: what the code meets.
pub mod Uniting
