-- Laws of rows arranged by their cells.
pub mod Finer
pub mod Dimensions
pub mod Ties
