-- Why rows in the order of their marks are those of a set split by one dimension more.
pub mod Slotted
pub mod Standing
