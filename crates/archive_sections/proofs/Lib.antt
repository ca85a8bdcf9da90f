-- The sections' ends, and what their answers say together.
pub mod Ends
pub mod Outline
