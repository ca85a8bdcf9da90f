-- Laws of two rows compared, and of rows that are single.
pub mod Agree
pub mod Compared
pub mod Examples
pub mod Longer
pub mod Parting
pub mod Singles
