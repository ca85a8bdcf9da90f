-- Why the calls keep what they promise.
pub mod Opened
pub mod Outcomes
