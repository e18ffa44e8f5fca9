-- The walk by process in words; src/lib.rt has the list.
pub mod Words
pub mod Walked
