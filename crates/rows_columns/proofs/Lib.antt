-- Laws of parts of a flat list, and of columns read into them.
pub mod Parts
pub mod Reading
