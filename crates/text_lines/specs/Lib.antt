-- The lister's lines.
pub mod Lines
