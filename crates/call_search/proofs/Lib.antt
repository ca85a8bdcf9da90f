-- Laws of the set of a cell.
pub mod CellSet
