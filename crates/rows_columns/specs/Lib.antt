-- The columns of rows, and their orders.
pub mod Columns
