-- The fields that both files with families share, and the places of their tables.
pub mod Shape
pub mod Places
