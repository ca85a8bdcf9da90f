-- Families of codes: nodes, and the lattice that they make.
pub mod Nodes
pub mod Families
pub mod Flat
pub mod Coarser
