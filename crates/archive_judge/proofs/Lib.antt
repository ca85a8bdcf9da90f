-- Why an archive is judged right.
pub mod Parts
pub mod Judged
