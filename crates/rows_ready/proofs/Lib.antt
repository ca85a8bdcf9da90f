-- Laws of base rows in a flat list, and of the cell of an empty table.
pub mod Ready
pub mod Blank
