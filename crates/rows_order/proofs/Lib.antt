-- Laws of ordered rows.
pub mod Numbers
pub mod Arranged
pub mod Sorted
pub mod Dealt
pub mod Columns
pub mod Moved
pub mod Few
