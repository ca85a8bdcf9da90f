-- Laws of runs of rows, and of the groups that these are.
pub mod Runs
pub mod Totals
pub mod Counts
pub mod Groups
pub mod Refined
pub mod Longer
pub mod Examples
pub mod Indexed
pub mod Gathered
