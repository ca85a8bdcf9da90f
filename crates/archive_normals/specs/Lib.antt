-- The normal entries as bytes.
pub mod Normals
pub mod Grouped
