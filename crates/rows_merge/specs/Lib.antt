-- Base rows of two archives as one list, and its rows one after the other.
pub mod United
pub mod Turns
pub mod Pass
