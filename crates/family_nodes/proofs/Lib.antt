-- Theorems of families of codes.
pub mod Nodes
pub mod Laws
pub mod Ordered
pub mod Flat
pub mod Coarser
pub mod Promises
pub mod Examples
