-- Laws of the groups of a slot as cells in bytes.
pub mod Masks
pub mod Shown
pub mod Left
pub mod Groupable
