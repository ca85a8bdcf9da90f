-- What inner functions of the calls on keys hand to one another.
pub mod Laid
pub mod Bare
