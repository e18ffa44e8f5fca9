-- Run's order by ranks; src/lib.rt has the list.
pub mod Ranks
pub mod Steps
