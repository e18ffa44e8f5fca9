-- The instances run in the written order; src/lib.rt has the list.
pub mod Columns
pub mod Places
pub mod Run
