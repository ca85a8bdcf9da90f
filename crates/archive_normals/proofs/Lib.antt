-- The normal entries set by set.
pub mod Sections
pub mod Slotted
