-- A cell searched among entries.
pub mod Search
