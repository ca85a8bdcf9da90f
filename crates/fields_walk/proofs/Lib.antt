-- Laws of reading from the left, and of the places that the code remembers.
pub mod Steps
pub mod Loops
pub mod Fields
pub mod Found
pub mod Any
pub mod Places
pub mod Codec
pub mod Many
pub mod Codecs
pub mod Ends
pub mod Limits
pub mod Lengths
