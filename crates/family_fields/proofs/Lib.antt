-- The level fields: what is written is read back; and the walk over them.
pub mod Shape
pub mod Levels
pub mod Towers
pub mod Nodes
pub mod Examples
