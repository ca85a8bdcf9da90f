-- Laws of sums in bytes.
pub mod Sums
