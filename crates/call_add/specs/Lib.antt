-- One late reading: what the call computes.
pub mod Adds
pub mod AddsAll
