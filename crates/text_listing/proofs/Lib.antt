-- Laws of listings.
pub mod Turns
pub mod Cuts
pub mod Fits
pub mod Read
pub mod Bound
pub mod Places
