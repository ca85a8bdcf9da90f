-- Laws of sets of dimensions, and of the code's table and mask.
pub mod Sets
pub mod Less
pub mod Mask
pub mod Table
pub mod Turns
