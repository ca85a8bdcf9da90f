-- What the two programs print.
pub mod Programs
