-- The check word, `Check`, and what callers use of it, `CheckLaws`; laws of its parts stand in `proofs/CheckLaws.antt`. `ReadBack` shows for each field, the check word too, that what is written is read back.
pub mod Check
pub mod CheckLaws
pub mod ReadBack
pub mod Examples
