-- Numbers as text.
pub mod Decimals
