-- Archives of either edition: how they differ, what they hold, their stops, their bytes.
pub mod Edition
pub mod Format
pub mod Layout
pub mod Reading
pub mod Sums
