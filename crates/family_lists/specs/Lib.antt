-- The lists of nodes of rows.
pub mod Lists
