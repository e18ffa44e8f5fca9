-- The words of answers; src/lib.rt has more.
pub mod Words
pub mod Kept
