-- Laws of tallies as text.
pub mod Texts
