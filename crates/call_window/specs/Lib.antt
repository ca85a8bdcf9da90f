-- Questions through a window: what the call answers, and its answer as a number.
pub mod Windows
pub mod Numbers
