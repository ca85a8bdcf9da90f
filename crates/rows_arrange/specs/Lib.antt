-- Rows arranged by their cells under a set.
pub mod Arrange
