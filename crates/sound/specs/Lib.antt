-- Sound states by a port table of rows; src/lib.rt has the list.
pub mod States
pub mod Meaning
