-- The demands on the calls, and the worked examples.
pub mod Promises
pub mod Stops
pub mod Empty
pub mod Keys
pub mod Room
pub mod Fees
pub mod Joins
pub mod Late
pub mod Windows
pub mod Small
pub mod Examples
pub mod Numbers
pub mod CheckWords
