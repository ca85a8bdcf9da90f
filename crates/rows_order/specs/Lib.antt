-- Rows in the order of a set.
pub mod Index
pub mod Few
