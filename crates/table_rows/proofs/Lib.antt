-- Laws of a table's rows, stored.
pub mod Rows
pub mod Storing
