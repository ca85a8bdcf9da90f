-- Laws of slots in a flat array, and of the set without its last dimension.
pub mod Shorter
pub mod Left
pub mod First
pub mod Column
pub mod Filling
pub mod Turns
