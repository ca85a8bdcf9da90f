-- The definitions that the contracts cite, one idea a file: `Words`, `Opening`, `Written`. Each `..Laws` has what callers use of them.
pub mod Written
pub mod WrittenLaws
pub mod Words
pub mod WordsLaws
pub mod Opening
pub mod OpeningLaws
