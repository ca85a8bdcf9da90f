-- Laws of lists and orders.
pub mod Tests
pub mod Members
pub mod Lengths
pub mod Pairwise
pub mod Places
pub mod Parts
pub mod Permutations
pub mod Pigeonhole
pub mod Order
pub mod Sorted
pub mod Search
