-- Laws that serve several functions.
pub mod Summed
pub mod CheckLaws
