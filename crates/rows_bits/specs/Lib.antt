-- Sets of rows, as bits.
pub mod Rowsets
