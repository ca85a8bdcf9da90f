-- The rows that are single on each node.
pub mod Alone
