-- Laws of rows in one flat list of words.
pub mod Rows
pub mod Flat
pub mod Fronts
