-- The fields that both files share, read from the left with their stops.
pub mod Parsed
pub mod Fields
pub mod Walked
pub mod Limits
