-- The call Step vectors; src/lib.rt has the list.
pub mod Stages
pub mod Places
pub mod Tally
pub mod Call
