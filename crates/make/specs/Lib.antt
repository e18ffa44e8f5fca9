-- What Make draws, writes, answers and leaves; src/lib.rt has more.
pub mod Words
pub mod Ranges
pub mod Call
