-- The search along the walk; src/lib.rt has the list.
pub mod Touched
pub mod Search
