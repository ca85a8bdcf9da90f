-- Why the calls on keys keep what they promise.
pub mod Listing
pub mod Bare
pub mod Outcomes
