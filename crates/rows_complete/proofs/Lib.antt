-- Why the slots that are completed have every group.
pub mod Completing
