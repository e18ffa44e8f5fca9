-- The answers of a description to every step vector; src/lib.rt has the list.
pub mod Own
pub mod Prospects
