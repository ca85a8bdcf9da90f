-- Laws that serve several functions.
pub mod Stands
pub mod Chunks
