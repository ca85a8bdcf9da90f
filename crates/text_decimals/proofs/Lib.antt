-- Laws of numbers as text.
pub mod Digits
pub mod Examples
