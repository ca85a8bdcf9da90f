-- The stops' numbers.
pub mod Numbers
