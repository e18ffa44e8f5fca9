-- Whether a process can move, by a port table, and that this is document 01's.
pub mod Moves
pub mod Meaning
