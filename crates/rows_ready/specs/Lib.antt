-- Base rows in a flat list, and the cell of an empty table.
pub mod Ready
pub mod Blank
