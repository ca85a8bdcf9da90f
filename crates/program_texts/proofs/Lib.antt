-- Laws of the programs.
pub mod Printed
pub mod Promises
pub mod Examples
