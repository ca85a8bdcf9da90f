-- Why a cell that is asked for gets its entry.
pub mod Asked
pub mod Normals
