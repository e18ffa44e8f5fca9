-- Which step looks at a word, and flags tested anew; src/lib.rt has the list.
pub mod Wakeups
pub mod Renewed
pub mod Owned
pub mod Filled
pub mod Refreshed
pub mod Meaning
