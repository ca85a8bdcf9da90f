-- What the code knows of base rows that are filed.
pub mod Stores
