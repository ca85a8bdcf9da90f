-- Laws of lines.
pub mod Texts
pub mod Words
