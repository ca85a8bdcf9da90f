-- Rows grouped by nodes, one node after the other.
pub mod Turns
pub mod Slots
