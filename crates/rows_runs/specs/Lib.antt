-- The runs of rows of one cell, and their totals.
pub mod Runs
pub mod Totals
