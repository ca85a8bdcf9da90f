-- Nodes noted, and the list of a row.
pub mod Notes
pub mod Listing
