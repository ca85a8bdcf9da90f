-- Why the slots have the groups of one node after the other.
pub mod Turns
pub mod Keys
pub mod One
pub mod Stacked
pub mod Carrying
