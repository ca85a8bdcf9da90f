-- An archive listed.
pub mod Listing
