-- Request 2.10; src/lib.rt lists the files.
pub mod Vectors
pub mod Counts
pub mod Replaced
pub mod Turning
pub mod Answers
