-- Why rows in the order of their codes in a column, and then as they stood, are those of a key with these codes in front.
pub mod Carried
pub mod Staying
