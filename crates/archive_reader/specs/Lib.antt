-- A reader as a value.
pub mod Place
