-- Sums and readings in two's complement.
pub mod Twos
pub mod TwosLaws
