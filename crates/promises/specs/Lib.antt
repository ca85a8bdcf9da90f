-- What the front page speaks of: the one rule, outputs that are always enough, numbers that can be decoded, what a look-up tells of a cell, the small tables as files.
pub mod Alone
pub mod Room
pub mod Decodes
pub mod Amounts
pub mod Small
