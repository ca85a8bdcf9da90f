-- The groups of rows by nodes are the cells of the definitions, and their lists are ours.
pub mod Groups
pub mod Keys
pub mod Cells
pub mod Examples
