-- Laws of groups in slots.
pub mod Groups
pub mod Entries
pub mod Marks
pub mod Rising
pub mod Steps
pub mod Stable
pub mod Marked
pub mod Marking
pub mod Pruned
pub mod Walked
pub mod Split
pub mod Last
pub mod Summing
pub mod Totalled
pub mod Whole
