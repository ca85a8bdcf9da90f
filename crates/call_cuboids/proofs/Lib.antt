-- Lengths of cuboids; cuboids read back.
pub mod Lengths
pub mod Back
