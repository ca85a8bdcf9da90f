-- Laws of words and of the cells of a table as bytes.
pub mod Words
pub mod Cells
pub mod Turns
