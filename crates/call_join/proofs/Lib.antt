-- Two archives into one: what the code meets.
pub mod Outcomes
