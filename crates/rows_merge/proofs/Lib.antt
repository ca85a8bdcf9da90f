-- Base rows of two archives as one list: the theorems.
pub mod Appending
pub mod Merging
pub mod United
pub mod Many
pub mod Examples
pub mod Turns
pub mod Pass
