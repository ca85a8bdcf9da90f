-- What the calls answer, and what they leave in the output that they are lent; their answers as numbers.
pub mod Answers
pub mod Calls
pub mod Keys
pub mod Joins
pub mod Joining
pub mod Numbers
