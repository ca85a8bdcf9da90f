-- Laws of lists made set by set, and of the cells that rows share.
pub mod Alone
pub mod Growing
pub mod Partly
pub mod Lone
pub mod Listing
pub mod Groups
