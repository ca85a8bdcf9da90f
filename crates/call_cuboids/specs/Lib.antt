-- Cuboids as bytes.
pub mod Cuboids
