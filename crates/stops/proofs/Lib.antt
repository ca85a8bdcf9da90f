-- What a `?` hands on, and that no two stops have one number.
pub mod Handed
pub mod Numbers
