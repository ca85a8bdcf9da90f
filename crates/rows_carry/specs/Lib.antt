-- Groups of a slot carried over to a key with one code more in front.
pub mod Carried
