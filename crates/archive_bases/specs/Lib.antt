-- Base rows with our lists, and the base entries that they are.
pub mod Listed
