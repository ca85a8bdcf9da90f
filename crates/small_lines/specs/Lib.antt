-- Tallies as text.
pub mod Lines
