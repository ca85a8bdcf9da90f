-- The codes of rows at each level.
pub mod Levelled
