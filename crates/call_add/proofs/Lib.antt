-- One late reading: what the code meets, and what is proved of the call.
pub mod Codes
pub mod Records
pub mod Adding
pub mod Adds
pub mod Examples
pub mod AddsAll
