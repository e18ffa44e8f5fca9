-- Steps by a port table of rows; src/lib.rt has the list.
pub mod Steps
pub mod Fits
pub mod Meaning
