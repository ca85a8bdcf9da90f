-- Codes raised from level to level.
pub mod Raised
