-- What no refusal of 33 and 1 to 10 leaves of the loops.
pub mod Walkable
