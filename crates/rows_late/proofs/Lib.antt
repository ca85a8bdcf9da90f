-- One row more: the cells that gain it, and the entries that come.
pub mod Growing
pub mod Late
pub mod Examples
