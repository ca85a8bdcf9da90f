-- Bytes compared with what they should be. `MatchedLaws` has what callers use of it.
pub mod Matched
pub mod MatchedLaws
