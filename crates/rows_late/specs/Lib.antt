-- One row more.
pub mod Late
