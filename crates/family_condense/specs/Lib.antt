-- Rows condensed by nodes.
pub mod Ends
