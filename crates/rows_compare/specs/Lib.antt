-- The order of two rows under a set.
pub mod Compare
