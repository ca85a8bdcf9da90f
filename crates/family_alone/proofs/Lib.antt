-- The words of nodes one level coarser, dimension by dimension; and blocks of 32 words.
pub mod Places
pub mod Raised
pub mod Blocks
