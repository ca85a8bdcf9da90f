-- The lattice of sets of dimensions.
pub mod Sets
