-- Where the words of a process and of a pipe stand; src/lib.rt lists the theorems.
pub mod Pipes
pub mod Through
pub mod Ports
pub mod Ends
pub mod Indices
pub mod Orders
