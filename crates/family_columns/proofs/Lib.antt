-- Codes raised from level to level, column by column.
pub mod Lifting
pub mod Raising
pub mod Filling
pub mod Dimensions
pub mod Heights
pub mod Examples
