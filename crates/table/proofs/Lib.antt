-- Laws of tables.
pub mod Accepted
pub mod Examples
pub mod Lengths
pub mod Reordering
pub mod Rearranging
