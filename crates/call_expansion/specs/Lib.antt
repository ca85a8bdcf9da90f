-- Base rows with the slots of all sets.
pub mod Slotted
