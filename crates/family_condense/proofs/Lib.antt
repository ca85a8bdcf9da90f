-- Why the rows that come out alone at a node are those whose list has it.
pub mod Coarser
pub mod Alone
pub mod Taking
pub mod Turns
