-- Laws of our base entries of rows in a flat list.
pub mod Chunks
pub mod Bases
pub mod Loops
