-- Lists of numbers as bytes, and writing part by part. Each `..Laws` has what callers use of them.
pub mod ListBytes
pub mod Writing
pub mod WritingLaws
pub mod Fitted
