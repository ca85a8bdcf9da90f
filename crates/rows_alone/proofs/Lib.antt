-- Laws of the rows that are passed over.
pub mod Words
