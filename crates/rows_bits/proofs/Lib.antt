-- Laws of sets of rows as bits.
pub mod Bits
