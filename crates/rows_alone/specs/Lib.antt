-- The rows that are single on each set.
pub mod Alone
