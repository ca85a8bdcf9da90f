-- Questions through a window: what the code meets, and what is proved of the call.
pub mod Windows
pub mod Asked
pub mod Examples
