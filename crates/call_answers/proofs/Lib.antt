-- How a call that writes an output ends, the entries of an archive of ours, and what is proved of the answers on keys and of archives joined.
pub mod Answers
pub mod Entries
pub mod Fitted
pub mod Opened
pub mod Outcomes
pub mod Keys
pub mod Made
pub mod Folded
pub mod Limits
pub mod Joins
pub mod Joining
pub mod Examples
