-- How far one can go on in a box; points by number; what the words say of the processes.
pub mod Rays
pub mod Points
pub mod Parts
pub mod Codes
pub mod Spans
