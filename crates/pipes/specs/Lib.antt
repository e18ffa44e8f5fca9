-- The elements of a pipe; soak and drain at each process.
pub mod Elements
pub mod Passed
