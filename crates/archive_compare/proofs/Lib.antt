-- How a loop compares words, and parts set by set.
pub mod Words
pub mod Turns
