-- Why a question through a window is replied to by the rows in it alone.
pub mod Windows
pub mod Examples
