-- Why `build` writes the archive of its table.
pub mod Building
