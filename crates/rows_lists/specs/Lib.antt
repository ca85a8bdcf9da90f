-- The lists of sets of rows in one flat list.
pub mod Lists
